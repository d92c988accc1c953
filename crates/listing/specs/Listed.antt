-- Document 01, "The listing program": what the input's characters leave, one after the other, of what is held and of
-- all the memory that is lent.
use Rattle.std.specs.Prelude.{cond, Option, Some, None, ◌≡◌, List, [], ◌∷◌, ℕ, ◌+◌, eqb, ltb, length, take}
use Rattle.octets.specs.Octets.{over}
use Rattle.answer.specs.declared.Answer.{Answer}
use Rattle.slots.specs.Stores.{Stores, stores}
use Rattle.collector.specs.State.{State, Reply, state}
use Rattle.collector.specs.Calls.{take_group, drop_number}
use Rattle.listing_input.specs.Split.{newline}
use Rattle.listing_input.specs.Gather.{most, room_for}
use Rattle.listing_input.specs.Line.{Asked, taking, dropping, neither, asked_of}
use Rattle.listing.specs.declared.Held.{Held}
use Rattle.listing.specs.declared.Lister.{Lister}
use Rattle.listing.specs.declared.Listing.{Listing}

-- ---- one line

-- what a line leaves: what is held, the memory that a group is laid in, and the stores
pub record Served : Type 0 where
  pub held : Held
  pub group : List ℕ
  pub stores : Stores

abbrev pub leaving : Held → List ℕ → Stores → Served
leaving held group stores = record { held = held; group = group; stores = stores }

abbrev pub served_by : Reply → List ℕ → Served
served_by reply group = record {
  held = record { collector = reply.left.collector; counts = reply.left.counts };
  group = group;
  stores = reply.left.stores;
}

-- the state in hand
abbrev pub state_of : Held → Stores → State
state_of held stores = state held.collector held.counts stores

-- a group is taken, or a number dropped; LINE changes nothing
abbrev pub served_as : Asked → Held → List ℕ → Stores → Served
served_as (taking bytes) held group stores = served_by (take_group bytes (state_of held stores)) (over group 0 bytes)
served_as (dropping number) held group stores = served_by (drop_number number (state_of held stores)) group
served_as neither held group stores = leaving held group stores

unfoldable pub served : List ℕ → Held → List ℕ → Stores → Served
served line held group stores = served_as (asked_of line) held group stores

-- what is answered; to LINE nothing is
abbrev pub answer_as : Asked → Held → Stores → Option Answer
answer_as (taking bytes) held stores = Some (take_group bytes (state_of held stores)).answer
answer_as (dropping number) held stores = Some (drop_number number (state_of held stores)).answer
answer_as neither held stores = None

unfoldable pub answer_to : List ℕ → Held → Stores → Option Answer
answer_to line held stores = answer_as (asked_of line) held stores

-- ---- the input

-- how far the listing is, with all that is lent to it
pub record Listed : Type 0 where
  pub listing : Listing
  pub line : List ℕ
  pub group : List ℕ
  pub stores : Stores

abbrev pub listed_as : Listing → List ℕ → List ℕ → Stores → Listed
listed_as listing line group stores = record { listing = listing; line = line; group = group; stores = stores }

-- what the program has
abbrev pub listed : Lister → Listed
listed l = listed_as l.listing l.line l.group (stores l.header l.body l.marks)

-- what the line leaves that is kept, and what is answered to it
abbrev pub served_line : Listed → Served
served_line l = served (take l.listing.kept l.line) l.listing.held l.group l.stores

abbrev pub line_answer : Listed → Option Answer
line_answer l = answer_to (take l.listing.kept l.line) l.listing.held l.stores

-- the number of the next line, as far as numbers go
abbrev pub next_of : ℕ → ℕ
next_of number = cond (ltb number 18446744073709551615) (number + 1) number

abbrev pub numbered : ℕ → List ℕ → Served → Listed
numbered number line left = listed_as (record { lines = number; kept = 0; held = left.held }) line left.group
    left.stores

-- a line ends: it is numbered, what it asks for is done, and nothing is kept of it
unfoldable pub line_listed : Listed → Listed
line_listed l = numbered (next_of l.listing.lines) l.line (served_line l)

-- a piece of a line is kept behind what is kept of it, as far as there is room
unfoldable pub piece_listed : List ℕ → Listed → Listed
piece_listed piece l =
    listed_as
    (record {
      lines = l.listing.lines;
      kept = l.listing.kept + length (room_for most l.listing.kept piece);
      held = l.listing.held;
    })
    (over l.line l.listing.kept (room_for most l.listing.kept piece))
    l.group
    l.stores

-- a newline ends a line, and every other character is kept
unfoldable pub input_listed : List ℕ → Listed → Listed
input_listed [] l = l
input_listed (character ∷ input) l =
    cond (eqb character newline) (input_listed input (line_listed l)) (input_listed input (piece_listed (character ∷ []) l))

-- the input's end ends a line of which there are characters
unfoldable pub end_listed : Listed → Listed
end_listed l = cond (ltb 0 l.listing.kept) (line_listed l) l

-- ---- what is read

-- some input makes the one of the other; which input a system call brings, no contract says
pub record Reads (l m : Listed) : Type 0 where
  pub input : List ℕ
  pub left : m ≡ input_listed input l

-- what is held, the memory that a group is laid in, and the stores
abbrev pub left_of : Listed → Served
left_of l = leaving l.listing.held l.group l.stores

-- each line in turn
unfoldable pub lines_served : List (List ℕ) → Served → Served
lines_served [] left = left
lines_served (line ∷ lines) left = lines_served lines (served line left.held left.group left.stores)
