-- How a list stores its elements, for the trees whose nodes hold lists of nodes: its value is the
-- list of the elements of the vector inside it.
use mathlib.Core.Path.{◌≡◌, refl, sym}
use mathlib.Core.List.{List, []}
use mathlib.Core.Former.{Former, this, list, via, children}
use base.Stored.{code_map}
use denote.RattleType.{RattleType}
use denote.HoleLaws.{Alike}
use denote.HolePlaces.{Recodes, struct_places, laid}
use denote.Hole.Carrier.{listed, list-listed}
use denote.Hole.Fix.{over}
use denote.Param.Weighed.{Weighed, w_list}
use denote.Model.Placed.{view_places}
use Rattle.std.specs.formers.vec.Vec as vec
use Rattle.std.specs.declared.alloc.Global.{Global}
use Rattle.std.specs.contracts.alloc.Global as heap
use Rattle.std.specs.contracts.impls.GlobalAllocator.TheImpl.{ghosts}
use Rattle.sch_word.specs.declared.list.List.TheInside.{Inside}
use Rattle.sch_word.specs.declared.list.List.TheView.{view, invariant}
use Rattle.sch_word.specs.contracts.list.List as outer
use Rattle.sch_word.specs.contracts.list.List.TheInside as inner

abbrev pub the_former : Former {0} → Former {0}
the_former element = list element

abbrev pub the_weighed : {element : Former {0}} → Weighed element → Weighed (the_former element)
the_weighed weight = w_list weight

pub the_empty : List ⊥
the_empty = []

abbrev pub the_items : (X : Type 0) → List X → List X
the_items X elements = elements

pub the_items_listed : (X : Type 0) (elements : List X) → listed _ (children (the_former this) X elements) ≡ the_items X elements
the_items_listed X elements = list-listed X elements

-- the one field, a vector, as a shape that holds the elements
abbrev field : Former {0}
field = via (vec.the_former this Global) Inside (λ X inside. inside.items) (λ X elements. record { items = elements }) (λ X inside. refl) (λ X elements. refl)

module _ (R S : RattleType) (along : R.Denot → S.Denot) where
  pub the_places : Alike R S along → Alike (outer.the_row R) (outer.the_row S) ((the_former this).map R.Denot S.Denot along)
  the_places alike = view_places field (list this) view (λ X Y f u. refl) (λ X u. refl) R.Denot S.Denot along (outer.the_row R).coded (outer.the_row S).coded
      (invariant R.Denot) (invariant S.Denot) (λ u p q. refl) (λ u p q. refl) (λ u e. tt) (λ u e. tt)
      (over (inner.the_row R)) (over (inner.the_row S))
      (struct_places (inner.the_type R) (inner.the_type S) (vec.mapped along, tt) _ (λ d. refl) refl (laid _ _ _ (vec.the_places heap.the_row ghosts R S along alike), tt))

  pub the_codes_placed : Recodes R S along → Recodes (outer.the_row R) (outer.the_row S) ((the_former this).map R.Denot S.Denot along)
  the_codes_placed recodes elements = sym (code_map R.coded.code S.coded.code along (λ x. sym (recodes x)) elements)
