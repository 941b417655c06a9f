use Rattle.std.proofs.Common.{◌≡◌, ◌++◌, false, sym, ap, ◌∙◌, ◌||◌, true}
use Rattle.sch_link_tables.specs.Named.{global_of, library_global}
use Rattle.sch_names.specs.Scope.{is_among}
use Rattle.sch_names.specs.NamesView.{names_of}
use Rattle.sch_link_program.proofs.NameSets.{among_append, found_held, found_named}
use Rattle.sch_link_program.proofs.keeping.is_named.Goals as goal

pub returns-then-contains : goal.returns-then-contains
returns-then-contains c =
    found_held c.args.x.now (names_of c.args.asked.now.named.now ++ names_of c.args.wanted.now) (names_of c.args.asked.now.held.now) (sym c.contains.ensures ∙ c.if-contains.true)

pub returns-then-contains-2 : goal.returns-then-contains-2
returns-then-contains-2 c =
    let x = library_global c.args.x.now in
    let named = names_of c.args.asked.now.named.now in
    let wanted = names_of c.args.wanted.now in
    let key : c.as_slice.result.now ≡ x = c.as_slice.ensures.value ∙ c.in_ok-key.ensures ∙ ap (λ own. global_of own c.args.x.now) c.new-none.ensures in
    let there : is_among x named ≡ true = ap (λ k. is_among k named) (sym key) ∙ sym c.contains-2.ensures ∙ c.if-contains-2.true in
    let either : is_among x (named ++ wanted) ≡ true = among_append x named wanted ∙ ap (λ b. b || is_among x wanted) there in
    sym either ∙ found_named c.args.x.now (named ++ wanted) (names_of c.args.asked.now.held.now) (sym c.contains.ensures ∙ c.if-contains.false)

pub returns : goal.returns
returns c =
    let x = library_global c.args.x.now in
    let named = names_of c.args.asked.now.named.now in
    let wanted = names_of c.args.wanted.now in
    let key : c.as_slice.result.now ≡ x = c.as_slice.ensures.value ∙ c.in_ok-key.ensures ∙ ap (λ own. global_of own c.args.x.now) c.new-none.ensures in
    let key' : c.as_slice-2.result.now ≡ x = c.as_slice-2.ensures.value ∙ c.in_ok-key.ensures ∙ ap (λ own. global_of own c.args.x.now) c.new-none.ensures in
    let there : is_among x named ≡ false = ap (λ k. is_among k named) (sym key) ∙ sym c.contains-2.ensures ∙ c.if-contains-2.false in
    let either : is_among x (named ++ wanted) ≡ is_among x wanted = among_append x named wanted ∙ ap (λ b. b || is_among x wanted) there in
    c.contains-3.ensures ∙ ap (λ k. is_among k wanted) key' ∙ sym either ∙ found_named c.args.x.now (named ++ wanted) (names_of c.args.asked.now.held.now) (sym c.contains.ensures ∙ c.if-contains.false)
