-- The text of a listing.
use Rattle.std.specs.Prelude.{ℕ, List, ◌++◌, codes, All}
use Rattle.sch_listing.specs.declared.listing.Listing.{Listing}
use Rattle.sch_listing.specs.Lines.{bodies_text, cycles_text, head_text, IsListedCycle, IsListedMark, marks_text, orders_text}

-- what a listing needs for its text: registers that have names, and addresses below 2^32
pub record IsPrintable (listing : Listing) : Type 0 where
  pub cycles : All IsListedCycle listing.cycles
  pub marks : All IsListedMark listing.marks

-- the lines of the head, the bodies, the sites, the cycles and the marks, and a last line
abbrev pub listing_text : Listing → List ℕ
listing_text listing =
    head_text listing.frame_words listing.instructions
    ++ (bodies_text 0 listing.bodies
    ++ (orders_text 0 listing.orders
    ++ (cycles_text listing.cycles
    ++ (marks_text listing.marks
    ++ codes "end\n"))))
