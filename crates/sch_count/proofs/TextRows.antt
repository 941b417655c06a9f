-- Texts of made-up counts, computed.
use Rattle.std.specs.Prelude.{◌≡◌, [], ◌∷◌, codes, refl}
use Rattle.std.specs.Fmt.{digits}
use Rattle.sch_count.specs.CountsText.{counts_text}
use Rattle.sch_count.proofs.RowSums.{row_from as row}

-- (define (fact n) (if (= n 0) 1 (* n (fact (- n 1))))) (display (fact 5)), where each activation that calls saves n and where it
-- returns
factorial : counts_text (codes "display" ∷ codes "form" ∷ codes "fact" ∷ codes "form" ∷ []) (row 1 1 0 0 ∷ row 1 0 0 0 ∷ row 6 1 10 0 ∷ row 1 0 0 0 ∷ []) 0
    ≡ codes "display 1 1 0 0\nform 1 0 0 0\nfact 6 1 10 0\nform 1 0 0 0\nstatus 0\n"
unfolding digits
factorial = refl

-- a body without an activation has no line
never_entered : counts_text (codes "f" ∷ codes "form" ∷ []) (row 0 0 0 0 ∷ row 1 0 0 0 ∷ []) 70 ≡ codes "form 1 0 0 0\nstatus 70\n"
unfolding digits
never_entered = refl

-- no bodies
nothing : counts_text [] [] 0 ≡ codes "status 0\n"
unfolding digits
nothing = refl
