-- The number of a name in a table.
use Rattle.std.proofs.Common.{◌≡◌, ℕ, zero, ◌≤◌, Bool, true, false, cond, nat_lt, List, Some, None, length, refl, ap, sym, ◌∙◌, map, arith, Vec}
use Rattle.std.proofs.lemmas.Bool.Decides.{nat_tests}
use Rattle.std.proofs.lemmas.List.Sums.{prefix_len-le-length}
use Rattle.std.specs.List.{position_or_len, position}
use Rattle.std.specs.declared.alloc.Global.{Global}
use Rattle.std.proofs.lemmas.List.Recursion.{is_position_or_len}
use Rattle.std.specs.Str.{bytes_eq}
use Rattle.sch_names.specs.NamesView.{number_of}

position_is : (x : List ℕ) (ks : List (Vec ℕ Global)) → number_of x (map (λ k. k.items) ks) ≡ position_or_len (λ k. bytes_eq x k.items) ks
position_is x ks = is_position_or_len (λ ks. number_of x (map (λ k. k.items) ks)) (λ k. bytes_eq x k.items) refl (λ k ks. ap (cond (bytes_eq x k.items) zero) (omega arith)) ks

chosen : (b : Bool) (n i : ℕ) → cond b (Some n) None ≡ Some i → i ≡ n
chosen true n i e = cc
chosen false n i e = cc

outside : (b : Bool) (n : ℕ) → cond b (Some n) None ≡ None → b ≡ false
outside true n e = cc
outside false n e = refl

pub found : (x : List ℕ) (ks : List (Vec ℕ Global)) (i : ℕ) → position (λ k. bytes_eq x k.items) ks ≡ Some i → i ≡ number_of x (map (λ k. k.items) ks)
found x ks i e = chosen _ _ i e ∙ sym (position_is x ks)

level : (n m : ℕ) → nat_lt n m ≡ false → n ≤ m → m ≡ n
level n m e h = grind (arith, nat_tests)

pub missing : (x : List ℕ) (ks : List (Vec ℕ Global)) → position (λ k. bytes_eq x k.items) ks ≡ None → length ks ≡ number_of x (map (λ k. k.items) ks)
missing x ks e = level _ _ (outside _ _ e) (prefix_len-le-length _ ks) ∙ sym (position_is x ks)
