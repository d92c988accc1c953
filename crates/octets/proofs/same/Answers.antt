-- Both tests are true exactly of equal lists.
use Rattle.std.proofs.Common.{◌∙◌}
use Rattle.std.proofs.lemmas.Bool.Decides.{same_from_decides}
use Rattle.std.proofs.lemmas.Slice.Eq.{bytes_eq-Decides}
use Rattle.octets.specs.laws.Marks.{equal-exactly}
use Rattle.octets.proofs.same.Goals as goal

pub returns : goal.returns
returns c =
    let a = c.args.a.now in
    let b = c.args.b.now in
    c.eq.ensures ∙ same_from_decides _ _ (bytes_eq-Decides a b) (equal-exactly a b)
