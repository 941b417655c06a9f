-- Where a compiled program lies in memory (the project's own).
use Rattle.std.specs.Prelude.{ℕ}

-- where the text lies, and is entered: 4 MiB, where linkers put the text of a static executable
abbrev pub text_address : ℕ
text_address = 0x400000

-- where the data lie: 256 MiB, so that addresses of text and data are numbers of 31 bits (the project's own)
abbrev pub data_address : ℕ
data_address = 0x10000000

-- the most bytes of a text: 16 MiB, so that it ends before the data begin (the project's own)
abbrev pub max_text_size : ℕ
max_text_size = 16777216

-- the most bytes of data with the zeros after them: with a text those of an image (the project's own)
abbrev pub max_data_size : ℕ
max_data_size = 0xBF000000
