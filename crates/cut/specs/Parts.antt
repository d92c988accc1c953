-- One part of an object or the other: its header or its body.
use Rattle.std.specs.Prelude.{List, ◌∷◌, ℕ}
use Rattle.answer.specs.declared.Part.{Part}
use Rattle.answer.specs.declared.Part.TheVariants.{Header, Body}
use Rattle.cut.specs.Requirement.{Segment, Fits}

abbrev pub other_part : Part → Part
other_part Header = Body
other_part Body = Header

-- a segment more, of the header or of the body
abbrev pub headers_with : Part → Segment → List Segment → List Segment
headers_with Header s hs = s ∷ hs
headers_with Body s hs = hs

abbrev pub bodies_with : Part → Segment → List Segment → List Segment
bodies_with Header s bs = bs
bodies_with Body s bs = s ∷ bs

-- the segments of a part, and of an object that they fit the part's bytes and its cut
abbrev pub those : Part → List Segment → List Segment → List Segment
those Header hs bs = hs
those Body hs bs = bs

abbrev pub part_of : (kind : Part) {limit : ℕ} {hs bs : List Segment} → Fits limit hs bs → List ℕ
part_of Header f = f.header
part_of Body f = f.body

abbrev pub cut_of : (kind : Part) {limit : ℕ} {hs bs : List Segment} → Fits limit hs bs → ℕ
cut_of Header f = f.header_cut
cut_of Body f = f.body_cut
