-- The items of the routines that know nothing of values but fixnums are what an `Asm` may have.
use Rattle.std.proofs.Common.{◌≡◌, ℕ, ◌<◌, List, [], ◌∷◌, ◌++◌, refl, arith}
use Rattle.std.proofs.lemmas.Int.{ints}
use Rattle.std.specs.Int.{w8, w32}
use Rattle.std.specs.Prelude.{FitsSigned, ℤ, pos}
use Rattle.sch_insn.specs.declared.insn.Insn.{Insn}
use Rattle.sch_asm.specs.declared.item.Item.{Item}
use Rattle.sch_asm.specs.declared.item.Item.TheVariants.{Label, Plain}
use Rattle.sch_asm.specs.Items.{AreItems, IsItem}
use Rattle.sch_runtime.specs.Code.{byte_store, bytes_label, bytes_test, bytes_turn, bytes_items, exit_code, exits, fill_code, fill_items, put_items, routine_items, word_store, words_label, words_test, words_turn}

fits_by : (z : ℤ) (n : ℕ) → z ≡ pos n → n < 2147483648 → FitsSigned w32 z
fits_by z n e lt = record { sfits = omega (arith, ints, e, lt) }

fits_one : (z : ℤ) (n : ℕ) → z ≡ pos n → n < 128 → FitsSigned w8 z
fits_one z n e lt = record { sfits = omega (arith, ints, e, lt) }

-- an exit before other items
exit_sound : (l s : ℕ) (rest : List Item) → s < 128 → AreItems rest → AreItems (Label l ∷ (exit_code s ++ rest))
exit_sound l s rest low h = (tt, (((omega arith, fits_by (pos s) s refl (omega (arith, low))), tt), (((omega arith, fits_by (pos 60) 60 refl (omega arith)), tt), ((tt, tt), h))))

-- a fill before other items
fill_sound : (l size turn test : ℕ) (store : Insn) (rest : List Item) → size < 128 → IsItem (Plain store) → AreItems rest → AreItems (Label l ∷ (fill_code store size turn test ++ rest))
fill_sound l size turn test store rest low s h = (
  tt,
  (
    tt,
    (
      tt,
      (
        s,
        (
          ((omega arith, fits_one (pos size) size refl (omega (arith, low))), tt),
          (
            ((omega arith, fits_one (pos 1) 1 refl (omega arith)), tt),
            (tt, (((omega arith, fits_one (pos 0) 0 refl (omega arith)), tt), ((omega arith, λ e. omega (arith, e), λ e. omega (arith, e)), ((omega arith, tt), h)))),
          ),
        ),
      ),
    ),
  ),
)

fills_sound : AreItems fill_items
fills_sound =
    fill_sound words_label 8 words_turn words_test word_store bytes_items (omega arith) (((omega arith, λ e. omega (arith, e)), omega arith), tt)
    (fill_sound bytes_label 1 bytes_turn bytes_test byte_store [] (omega arith) (((omega arith, λ e. omega (arith, e)), omega arith, refl), tt) tt)

put_sound : AreItems put_items
put_sound = (
  tt,
  (
    (omega arith, (omega arith, omega arith)),
    (
      (omega arith, (omega arith, omega arith)),
      (
        ((omega arith, omega arith), tt),
        (
          tt,
          (
            (omega arith, (omega arith, omega arith)),
            (
              tt,
              (
                ((omega arith, fits_one (pos 0) 0 refl (omega arith)), tt),
                (
                  (omega arith, λ e. omega (arith, e), λ e. omega (arith, e)),
                  (
                    ((omega arith, fits_by (pos 1) 1 refl (omega arith)), tt),
                    (
                      ((omega arith, fits_by (pos 1) 1 refl (omega arith)), tt),
                      (
                        (tt, tt),
                        (
                          ((omega arith, fits_one (pos 0) 0 refl (omega arith)), tt),
                          (
                            (omega arith, λ e. omega (arith, e), λ e. omega (arith, e)),
                            (
                              ((omega arith, omega arith), tt),
                              (
                                ((omega arith, omega arith), tt),
                                (
                                  tt,
                                  (
                                    tt,
                                    (
                                      (omega arith, (omega arith, omega arith)),
                                      (
                                        (omega arith, (omega arith, omega arith)),
                                        (
                                          (omega arith, (omega arith, omega arith)),
                                          (
                                            (omega arith, tt),
                                            (
                                              tt,
                                              (
                                                (omega arith, (omega arith, omega arith)),
                                                (
                                                  (omega arith, (omega arith, omega arith)),
                                                  (
                                                    ((omega arith, omega arith), tt),
                                                    (
                                                      ((omega arith, omega arith), tt),
                                                      (
                                                        ((omega arith, fits_one (pos 0) 0 refl (omega arith)), tt),
                                                        (
                                                          (omega arith, λ e. omega (arith, e), λ e. omega (arith, e)),
                                                          (
                                                            (omega arith, tt),
                                                            (
                                                              tt,
                                                              (
                                                                ((omega arith, fits_by (pos 268435520) 268435520 refl (omega arith)), tt),
                                                                (
                                                                  ((omega arith, fits_by (pos 10) 10 refl (omega arith)), tt),
                                                                  (
                                                                    tt,
                                                                    (
                                                                      ((omega arith, fits_by (pos 0) 0 refl (omega arith)), tt),
                                                                      (
                                                                        (omega arith, tt),
                                                                        (
                                                                          ((omega arith, fits_one (pos 48) 48 refl (omega arith)), tt),
                                                                          (
                                                                            ((omega arith, fits_one (pos 1) 1 refl (omega arith)), tt),
                                                                            (
                                                                              (((omega arith, λ e. omega (arith, e)), omega arith, refl), tt),
                                                                              (
                                                                                ((omega arith, fits_one (pos 0) 0 refl (omega arith)), tt),
                                                                                (
                                                                                  (omega arith, λ e. omega (arith, e), λ e. omega (arith, e)),
                                                                                  (
                                                                                    ((omega arith, fits_one (pos 0) 0 refl (omega arith)), tt),
                                                                                    (
                                                                                      (omega arith, λ e. omega (arith, e), λ e. omega (arith, e)),
                                                                                      (
                                                                                        ((omega arith, fits_one (pos 1) 1 refl (omega arith)), tt),
                                                                                        (
                                                                                          ((omega arith, fits_by (pos 45) 45 refl (omega arith)), tt),
                                                                                          (
                                                                                            (((omega arith, λ e. omega (arith, e)), omega arith, refl), tt),
                                                                                            (
                                                                                              tt,
                                                                                              (
                                                                                                ((omega arith, fits_by (pos 268435520) 268435520 refl (omega arith)), tt),
                                                                                                (
                                                                                                  ((omega arith, omega arith), tt),
                                                                                                  (
                                                                                                    tt,
                                                                                                    fills_sound,
                                                                                                  ),
                                                                                                ),
                                                                                              ),
                                                                                            ),
                                                                                          ),
                                                                                        ),
                                                                                      ),
                                                                                    ),
                                                                                  ),
                                                                                ),
                                                                              ),
                                                                            ),
                                                                          ),
                                                                        ),
                                                                      ),
                                                                    ),
                                                                  ),
                                                                ),
                                                              ),
                                                            ),
                                                          ),
                                                        ),
                                                      ),
                                                    ),
                                                  ),
                                                ),
                                              ),
                                            ),
                                          ),
                                        ),
                                      ),
                                    ),
                                  ),
                                ),
                              ),
                            ),
                          ),
                        ),
                      ),
                    ),
                  ),
                ),
              ),
            ),
          ),
        ),
      ),
    ),
  ),
)

pub routines_sound : AreItems routine_items
routines_sound =
    exit_sound 0 0 (exits (65 ∷ 66 ∷ 67 ∷ 68 ∷ 69 ∷ 70 ∷ 71 ∷ 72 ∷ 73 ∷ 74 ∷ []) put_items) (omega arith)
    (exit_sound 1 65 (exits (66 ∷ 67 ∷ 68 ∷ 69 ∷ 70 ∷ 71 ∷ 72 ∷ 73 ∷ 74 ∷ []) put_items) (omega arith)
    (exit_sound 2 66 (exits (67 ∷ 68 ∷ 69 ∷ 70 ∷ 71 ∷ 72 ∷ 73 ∷ 74 ∷ []) put_items) (omega arith)
    (exit_sound 3 67 (exits (68 ∷ 69 ∷ 70 ∷ 71 ∷ 72 ∷ 73 ∷ 74 ∷ []) put_items) (omega arith)
    (exit_sound 4 68 (exits (69 ∷ 70 ∷ 71 ∷ 72 ∷ 73 ∷ 74 ∷ []) put_items) (omega arith)
    (exit_sound 5 69 (exits (70 ∷ 71 ∷ 72 ∷ 73 ∷ 74 ∷ []) put_items) (omega arith)
    (exit_sound 6 70 (exits (71 ∷ 72 ∷ 73 ∷ 74 ∷ []) put_items) (omega arith)
    (exit_sound 7 71 (exits (72 ∷ 73 ∷ 74 ∷ []) put_items) (omega arith)
    (exit_sound 8 72 (exits (73 ∷ 74 ∷ []) put_items) (omega arith)
    (exit_sound 9 73 (exits (74 ∷ []) put_items) (omega arith) (exit_sound 10 74 (exits ([]) put_items) (omega arith) (put_sound)))))))))))
