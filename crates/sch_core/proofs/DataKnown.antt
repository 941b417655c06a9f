-- Data that are in range, each with its parts.
use Rattle.std.proofs.Common.{◌≡◌, true, List, [], ◌∷◌, ◌++◌, refl}
use Rattle.std.specs.Prelude.{◌&&◌}
use Rattle.std.proofs.lemmas.Bool.{and_from}
use Rattle.sch_word.proofs.facts.Booleans.{and_parts}
use Rattle.sch_read.specs.Grammar.{Datum, Data, atom, list, dotted, vector, none, cons}
use Rattle.sch_read.specs.DatumParts.{each_of, parts}
use Rattle.sch_core.specs.Quotable.{datum_in_range, data_in_range, own_in_range, AllQuotable, AreQuotable}

pub all_quotable : (xs : Data) → data_in_range xs ≡ true → AllQuotable xs
all_quotable none h = tt
all_quotable (cons d ds) h = let k = and_parts _ _ h in (k.0, all_quotable ds k.1)

-- ## Data by what each of them is alone

each_parted : (ds es : List Datum) → AreQuotable (ds ++ es) → AreQuotable ds × AreQuotable es
each_parted [] es h = (tt, h)
each_parted (d ∷ ds) es h = let k = each_parted ds es h.1 in ((h.0, k.0), k.1)

each_data : (ds : Data) → AreQuotable (each_of ds) → data_in_range ds ≡ true
each_data none h = refl
each_data (cons d ds) h = and_from _ _ h.0 (each_data ds h.1)

each_and : (ds : Data) (d : Datum) → AreQuotable (each_of ds ++ d ∷ []) → (data_in_range ds && datum_in_range d) ≡ true
each_and none d h = h.0
each_and (cons x ds) d h = and_from _ _ (and_from _ _ h.0 (and_parts _ _ (each_and ds d h.1)).0) (and_parts _ _ (each_and ds d h.1)).1

by_parts : (d : Datum) → own_in_range d ≡ true → AreQuotable (parts d) → datum_in_range d ≡ true
by_parts (atom at a) o h = o
by_parts (list at ds) o h = each_data ds h
by_parts (dotted at ds last) o h = each_and ds last h
by_parts (vector at ds) o h = each_data ds h

-- a datum and others, by its parts and these
pub known_by_parts : (d : Datum) (others : List Datum) → own_in_range d ≡ true → AreQuotable (parts d ++ others) → AreQuotable (d ∷ others)
known_by_parts d others o h = let k = each_parted (parts d) others h in (by_parts d o k.0, k.1)

pub trees_known : (ds : Data) → AreQuotable (each_of ds) → AllQuotable ds
trees_known ds h = all_quotable ds (each_data ds h)
