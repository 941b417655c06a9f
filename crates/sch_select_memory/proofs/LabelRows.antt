-- Worked rows: how many labels bodies may have, and the last one that items can name.
use Rattle.std.proofs.Common.{◌≡◌, ◌+◌, ◌^◌, true, false, refl}
use Rattle.sch_select_memory.specs.Addresses.{body_label, max_labels}
use Rattle.sch_select_memory.specs.Reach.{is_reached_label}

most_labels : max_labels ≡ 4294966260
most_labels = refl

-- of the numbers of 32 bits 12 are left behind theirs
numbers_left : body_label max_labels + 12 ≡ 2 ^ 32
numbers_left = refl

last_label : is_reached_label 4294966260 ≡ true
last_label = refl

label_past : is_reached_label 4294966261 ≡ false
label_past = refl
