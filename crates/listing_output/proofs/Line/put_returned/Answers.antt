-- `listing_output::Line::put_returned` meets its contract: in each arm what is returned is what the arm names.
-- Assumes nothing.
use Rattle.std.proofs.Common.{sym, ap, ◌∙◌, arith}
use Rattle.answer.specs.declared.Returned.{Returned}
use Rattle.listing_output.specs.laws.Put.{put_same, put_then, segment-then}
use Rattle.listing_output.specs.Text.{text_of, values_of}
use Rattle.listing_output.proofs.Line.put_returned.Goals as goal

pub returns-in-Sent-clause-put : goal.returns-in-Sent-clause-put
returns-in-Sent-clause-put c =
    put_same (put_then c.put_segment.ensures.put c.put_repetition.ensures.put (omega arith))
    (segment-then c.in-Sent.heard _ ∙ sym (ap (λ (returned : Returned). text_of (values_of returned)) c.in-Sent.is))

pub returns-in-Segment-clause-put : goal.returns-in-Segment-clause-put
returns-in-Segment-clause-put c =
    put_same (put_then c.put_segment-in-Segment.ensures.put c.put.ensures (omega arith))
    (segment-then c.in-Segment.heard _
    ∙ sym (ap (λ (returned : Returned). text_of (values_of returned)) c.in-Segment.is))

pub returns-in-Number-clause-put : goal.returns-in-Number-clause-put
returns-in-Number-clause-put c =
    put_same (put_then c.put_hex.ensures.put c.put-in-Number.ensures (omega arith))
    (sym (ap (λ (returned : Returned). text_of (values_of returned)) c.in-Number.is))
