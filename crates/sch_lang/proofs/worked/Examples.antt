-- What the small programs do: what each prints, how it ends, how many entries it takes and how many
-- bytes it is charged. Each statement is computed.
use Rattle.std.proofs.Common.{◌≡◌, refl, true, [], ◌∷◌, pos}
use Rattle.std.specs.Prelude.{codes}
use Rattle.std.specs.Fmt.{digits}
use Rattle.sch_word.specs.declared.answer.Answer.TheVariants.{Took, Failed}
use Rattle.sch_word.specs.runs.Runs.{ended}
use Rattle.sch_word.specs.runs.WorkedRuns.{ends}
use Rattle.sch_lang.specs.Examples.{minus, plain_run, heap_run, goes_on, assigned_formals, assigned_local, call_of_number, car_of_number, counter, divide_by_zero, divisions, endless, even_odd, library_call, loop_of, nested_literal, nested_nine, pairs, past_the_end, put_next, put_number, put_texts, recursive_inits, right_then_wrong_count, rest_list, sum_line, swap_thrice, two_orders, two_orders_table, two_procedures, unset_global, unset_init, written_literal, wrong_count}
use Rattle.sch_word.specs.runs.Answers.{TakesNothing}
use Rattle.sch_lang.specs.Run.{run}
use Rattle.sch_lang.specs.Valid.{is_valid}

sum_line_runs : plain_run sum_line 1 0 ≡ ends (51 ∷ 10 ∷ []) 0 0 0
unfolding digits
sum_line_runs = refl

negative_runs : plain_run (put_number (minus 42)) 1 0 ≡ ends (codes "-42") 0 0 0
unfolding digits
negative_runs = refl

greatest_runs : plain_run (put_number (pos 1152921504606846975)) 1 0 ≡ ends (codes "1152921504606846975") 0 0 0
unfolding digits
greatest_runs = refl

overflow_runs : plain_run (put_next (pos 1152921504606846975)) 1 0 ≡ ends [] 70 0 0
unfolding digits
overflow_runs = refl

divisions_runs : plain_run divisions 1 0 ≡ ends (codes "-31") 0 0 0
unfolding digits
divisions_runs = refl

divide_by_zero_runs : plain_run divide_by_zero 1 0 ≡ ends [] 69 0 0
unfolding digits
divide_by_zero_runs = refl

car_of_number_runs : plain_run car_of_number 1 0 ≡ ends [] 65 0 0
unfolding digits
car_of_number_runs = refl

past_the_end_runs : plain_run past_the_end 1 0 ≡ ends [] 66 0 32
unfolding digits
past_the_end_runs = refl

call_of_number_runs : plain_run call_of_number 1 5 ≡ ends [] 67 0 0
unfolding digits
call_of_number_runs = refl

wrong_count_runs : plain_run wrong_count 1 5 ≡ ends [] 68 0 16
unfolding digits
wrong_count_runs = refl

depth_before_count_runs : plain_run wrong_count 0 0 ≡ ends [] 72 0 16
unfolding digits
depth_before_count_runs = refl

spent_before_count_runs : plain_run wrong_count 1 0 ≡ goes_on [] 0 16
unfolding digits
spent_before_count_runs = refl

-- the entries are those of the whole run
later_spent_runs : plain_run right_then_wrong_count 1 1 ≡ goes_on [] 1 32
unfolding digits
later_spent_runs = refl

later_count_runs : plain_run right_then_wrong_count 1 2 ≡ ends [] 68 1 32
unfolding digits
later_count_runs = refl

loop_runs : plain_run (loop_of 20) 1 21 ≡ ends (codes "ok") 0 21 16
unfolding digits
loop_runs = refl

loop_spent_runs : plain_run (loop_of 20) 1 20 ≡ goes_on [] 20 16
unfolding digits
loop_spent_runs = refl

nested_runs : plain_run nested_nine 10 50 ≡ ends (codes "9") 0 10 16
unfolding digits
nested_runs = refl

nested_too_deep_runs : plain_run nested_nine 9 50 ≡ ends [] 72 9 16
unfolding digits
nested_too_deep_runs = refl

first_before_second_runs : run two_orders (two_orders_table (0 ∷ 1 ∷ 2 ∷ [])) 4096 1 [] 1 ≡ ends (codes "11") 0 1 32
unfolding digits
first_before_second_runs = refl

second_before_first_runs : run two_orders (two_orders_table (2 ∷ 0 ∷ 1 ∷ [])) 4096 1 [] 1 ≡ ends (codes "25") 0 1 32
unfolding digits
second_before_first_runs = refl

swap_runs : plain_run swap_thrice 1 10 ≡ ends (codes "2") 0 4 16
unfolding digits
swap_runs = refl

endless_runs : plain_run endless 1 30 ≡ goes_on [] 30 16
unfolding digits
endless_runs = refl

rest_list_runs : heap_run rest_list 48 1 1 ≡ ends (codes "3") 0 1 48
unfolding digits
rest_list_runs = refl

rest_list_stops_runs : heap_run rest_list 47 1 1 ≡ ends [] 71 0 16
unfolding digits
rest_list_stops_runs = refl

library_call_runs : plain_run library_call 1 1 ≡ ends [] 65 1 0
unfolding digits
library_call_runs = refl

unset_init_runs : plain_run unset_init 1 0 ≡ ends [] 73 0 32
unfolding digits
unset_init_runs = refl

unset_init_from_right_runs : run unset_init ((1 ∷ 0 ∷ []) ∷ []) 4096 1 [] 0 ≡ ends [] 73 0 32
unfolding digits
unset_init_from_right_runs = refl

unset_global_runs : plain_run unset_global 1 0 ≡ ends [] 73 0 0
unfolding digits
unset_global_runs = refl

even_runs : heap_run (even_odd 6) 32 1 7 ≡ ends (codes "#t") 0 7 32
unfolding digits
even_runs = refl

odd_runs : heap_run (even_odd 7) 32 1 8 ≡ ends (codes "#f") 0 8 32
unfolding digits
odd_runs = refl

assigned_local_runs : heap_run assigned_local 16 1 0 ≡ ends (codes "7") 0 0 16
unfolding digits
assigned_local_runs = refl

assigned_local_stops_runs : heap_run assigned_local 15 1 0 ≡ ends [] 71 0 0
unfolding digits
assigned_local_stops_runs = refl

recursive_inits_runs : heap_run recursive_inits 48 1 1 ≡ ends (codes "7") 0 1 48
unfolding digits
recursive_inits_runs = refl

counter_runs : plain_run counter 1 3 ≡ ends (codes "2") 0 3 48
unfolding digits
counter_runs = refl

two_procedures_runs : plain_run two_procedures 1 0 ≡ ends (codes "#f") 0 0 32
unfolding digits
two_procedures_runs = refl

pairs_fit_runs : plain_run (pairs 256) 1 0 ≡ ends [] 0 0 4096
unfolding digits
pairs_fit_runs = refl

pairs_stop_runs : plain_run (pairs 257) 1 0 ≡ ends [] 71 0 4096
unfolding digits
pairs_stop_runs = refl

formals_fit_runs : plain_run (assigned_formals 255) 1 256 ≡ ends [] 0 255 4096
unfolding digits
formals_fit_runs = refl

formals_stop_runs : plain_run (assigned_formals 256) 1 256 ≡ ends [] 71 256 4096
unfolding digits
formals_stop_runs = refl

failed_put_runs : run put_texts ((0 ∷ []) ∷ (0 ∷ []) ∷ []) 4096 1 (Took 1 ∷ Took 1 ∷ Failed ∷ Took 9 ∷ []) 0 ≡ record { output = codes "ab"; entries = 0; charged = 0; answers = 3; end = ended 74 }
unfolding digits
failed_put_runs = refl

refused_put_runs : run put_texts ((0 ∷ []) ∷ (0 ∷ []) ∷ []) 4096 1 (Took 1 ∷ Took 0 ∷ Took 9 ∷ []) 0 ≡ record { output = codes "a"; entries = 0; charged = 0; answers = 2; end = ended 74 }
unfolding digits
refused_put_runs = refl

-- which answers take nothing
refusals : TakesNothing Failed × TakesNothing (Took 0) × (TakesNothing (Took 1) → ⊥)
refusals = (tt, tt, λ taken. taken)

long_take_runs : run put_texts ((0 ∷ []) ∷ (0 ∷ []) ∷ []) 4096 1 (Took 1 ∷ Took 9 ∷ []) 0 ≡ record { output = codes "abcd"; entries = 0; charged = 0; answers = 2; end = ended 0 }
unfolding digits
long_take_runs = refl

nested_literal_runs : plain_run nested_literal 1 0 ≡ ends (codes "2symx3") 0 0 0
unfolding digits
nested_literal_runs = refl

written_literal_runs : plain_run written_literal 1 9 ≡ ends (codes "cb") 0 2 16
unfolding digits
written_literal_runs = refl

-- ## The programs are valid

sum_line_valid : is_valid sum_line ≡ true
sum_line_valid = refl

put_number_valid : is_valid (put_number (minus 42)) ≡ true
put_number_valid = refl

put_next_valid : is_valid (put_next (pos 1)) ≡ true
put_next_valid = refl

divisions_valid : is_valid divisions ≡ true
divisions_valid = refl

divide_by_zero_valid : is_valid divide_by_zero ≡ true
divide_by_zero_valid = refl

car_of_number_valid : is_valid car_of_number ≡ true
car_of_number_valid = refl

past_the_end_valid : is_valid past_the_end ≡ true
past_the_end_valid = refl

call_of_number_valid : is_valid call_of_number ≡ true
call_of_number_valid = refl

wrong_count_valid : is_valid wrong_count ≡ true
wrong_count_valid = refl

loop_of_valid : is_valid (loop_of 20) ≡ true
loop_of_valid = refl

nested_nine_valid : is_valid nested_nine ≡ true
nested_nine_valid = refl

two_orders_valid : is_valid two_orders ≡ true
two_orders_valid = refl

swap_thrice_valid : is_valid swap_thrice ≡ true
swap_thrice_valid = refl

endless_valid : is_valid endless ≡ true
endless_valid = refl

rest_list_valid : is_valid rest_list ≡ true
rest_list_valid = refl

library_call_valid : is_valid library_call ≡ true
library_call_valid = refl

unset_init_valid : is_valid unset_init ≡ true
unset_init_valid = refl

unset_global_valid : is_valid unset_global ≡ true
unset_global_valid = refl

even_odd_valid : is_valid (even_odd 6) ≡ true
even_odd_valid = refl

assigned_local_valid : is_valid assigned_local ≡ true
assigned_local_valid = refl

recursive_inits_valid : is_valid recursive_inits ≡ true
recursive_inits_valid = refl

counter_valid : is_valid counter ≡ true
counter_valid = refl

two_procedures_valid : is_valid two_procedures ≡ true
two_procedures_valid = refl

pairs_valid : is_valid (pairs 257) ≡ true
pairs_valid = refl

assigned_formals_valid : is_valid (assigned_formals 256) ≡ true
assigned_formals_valid = refl

put_texts_valid : is_valid put_texts ≡ true
put_texts_valid = refl

nested_literal_valid : is_valid nested_literal ≡ true
nested_literal_valid = refl

written_literal_valid : is_valid written_literal ≡ true
written_literal_valid = refl
