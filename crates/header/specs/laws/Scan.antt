-- What one pass over the list notes: the executable form of `read_header`, which Exact.antt proves equal to it.
use Rattle.std.specs.Prelude.{Bool, true, false, List, [], ◌∷◌, Option, Some, None, Result, Ok, Err, ℕ, ◌<◌, eqb, get_or, set, replicate}
use Rattle.octets.specs.Octets.{both}
use Rattle.header.specs.declared.Parameter.{Parameter}
use Rattle.header.specs.declared.Notes.{Notes}
use Rattle.header.specs.declared.Refusal.{Refusal}
use Rattle.header.specs.declared.Refusal.TheVariants.{Header}
use Rattle.header.specs.Parameters.{pick, Listed, broken, listed, parameters, width_fits, single}

abbrev pub either : Bool → Bool → Bool
either true b = true
either false b = b

-- one more parameter, whose identifier has come already or not
unfoldable pub note : Notes → Parameter → Bool → Notes
note n p before =
    record {
      repeated = either n.repeated (both before (single p.identifier));
      priority =
          pick (eqb p.identifier 0x0A) (Some p) n.priority;
      name = pick (eqb p.identifier 0x0C) (Some p)
          n.name;
    }

-- `seen` says of each identifier whether it has come
unfoldable pub note_all : List Parameter → List Bool → Notes → Result Notes Refusal
note_all [] seen n = Ok n
note_all (p ∷ ps) seen n =
    pick (width_fits p.identifier p.size)
    (note_all ps (set seen p.identifier true) (note n p (get_or seen p.identifier false))) (Err Header)

unfoldable pub scanned : Listed → List Bool → Notes → Result Notes Refusal
scanned broken seen n = Err Header
scanned (listed ps) seen n = note_all ps seen n

-- before the first parameter
abbrev pub unmarked : List Bool
unmarked = replicate 64 false

abbrev pub unnoted : Notes
unnoted = record { repeated = false; priority = None; name = None }

unfoldable pub scan_header : List ℕ → Result Notes Refusal
scan_header h = scanned (parameters h) unmarked unnoted

-- the first byte of the data, if there is a parameter, lies before `end`
abbrev pub Inside : ℕ → Option Parameter → Type 0
Inside end None = Unit {0}
Inside end (Some p) = p.start < end
