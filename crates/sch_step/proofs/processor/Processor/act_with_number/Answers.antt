use Rattle.std.proofs.Common.{refl}
use Rattle.std.specs.Prelude.{bit_or, bit_and, bit_xor}
use Rattle.sch_insn.specs.Machine.{sum_of, difference_of, bits_of}
use Rattle.sch_step.proofs.RowsOfWords.{changes, compares}
use Rattle.sch_step.proofs.processor.Processor.act_with_number.Goals as goal

pub returns-in-AddNumber : goal.returns-in-AddNumber
returns-in-AddNumber c = changes c.in-AddNumber.m sum_of c.in-AddNumber.is c.add_to.ensures c.word_in.ensures refl

pub returns-in-OrNumber : goal.returns-in-OrNumber
returns-in-OrNumber c = changes c.in-OrNumber.m (λ v b. bits_of (bit_or v b)) c.in-OrNumber.is c.or_to.ensures c.word_in-in-OrNumber.ensures refl

pub returns-in-AndNumber : goal.returns-in-AndNumber
returns-in-AndNumber c = changes c.in-AndNumber.m (λ v b. bits_of (bit_and v b)) c.in-AndNumber.is c.and_to.ensures c.word_in-in-AndNumber.ensures refl

pub returns-in-SubNumber : goal.returns-in-SubNumber
returns-in-SubNumber c = changes c.in-SubNumber.m difference_of c.in-SubNumber.is c.sub_to.ensures c.word_in-in-SubNumber.ensures refl

pub returns-in-XorNumber : goal.returns-in-XorNumber
returns-in-XorNumber c = changes c.in-XorNumber.m (λ v b. bits_of (bit_xor v b)) c.in-XorNumber.is c.xor_to.ensures c.word_in-in-XorNumber.ensures refl

pub returns-in-CmpNumber : goal.returns-in-CmpNumber
returns-in-CmpNumber c = compares c.in-CmpNumber.m difference_of c.in-CmpNumber.is c.cmp_to.ensures c.word_in-in-CmpNumber.ensures refl

pub returns-in-AddNumber8 : goal.returns-in-AddNumber8
returns-in-AddNumber8 c = changes c.in-AddNumber8.m sum_of c.in-AddNumber8.is c.add_to-in-AddNumber8.ensures c.word_in_byte.ensures refl

pub returns-in-OrNumber8 : goal.returns-in-OrNumber8
returns-in-OrNumber8 c = changes c.in-OrNumber8.m (λ v b. bits_of (bit_or v b)) c.in-OrNumber8.is c.or_to-in-OrNumber8.ensures c.word_in_byte-in-OrNumber8.ensures refl

pub returns-in-AndNumber8 : goal.returns-in-AndNumber8
returns-in-AndNumber8 c = changes c.in-AndNumber8.m (λ v b. bits_of (bit_and v b)) c.in-AndNumber8.is c.and_to-in-AndNumber8.ensures c.word_in_byte-in-AndNumber8.ensures refl

pub returns-in-SubNumber8 : goal.returns-in-SubNumber8
returns-in-SubNumber8 c = changes c.in-SubNumber8.m difference_of c.in-SubNumber8.is c.sub_to-in-SubNumber8.ensures c.word_in_byte-in-SubNumber8.ensures refl

pub returns-in-XorNumber8 : goal.returns-in-XorNumber8
returns-in-XorNumber8 c = changes c.in-XorNumber8.m (λ v b. bits_of (bit_xor v b)) c.in-XorNumber8.is c.xor_to-in-XorNumber8.ensures c.word_in_byte-in-XorNumber8.ensures refl

pub returns-in-CmpNumber8 : goal.returns-in-CmpNumber8
returns-in-CmpNumber8 c = compares c.in-CmpNumber8.m difference_of c.in-CmpNumber8.is c.cmp_to-in-CmpNumber8.ensures c.word_in_byte-in-CmpNumber8.ensures refl
