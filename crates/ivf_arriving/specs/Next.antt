-- What stands next in an IVF file, of which s is at hand: docs/RULES.md's records, refusals 8 and 9.
-- Assumes nothing.
use Rattle.std.specs.Prelude.{ℕ, ◌+◌, Bool, List, ltb, eqb, length}
use Rattle.base_shared.specs.Choice.{pick}
use Rattle.base_little.specs.Little.{little}
use Rattle.ivf_arriving.specs.declared.Next.{Next}
use Rattle.ivf_arriving.specs.declared.Next.TheVariants.{End, More, Cut, Data, Long}

-- no bytes: the file may end before a record
abbrev pub empty_by : Bool → Next
empty_by ended = pick ended End More

-- too few bytes: 8 where the file has ended
abbrev pub short_by : Bool → Next
short_by ended = pick ended Cut More

-- a record of n bytes of data: one that is too long is passed by unread
unfoldable pub data_by : List ℕ → Bool → ℕ → Next
data_by s ended n = pick (ltb 65536 n) (Long n) (pick (ltb (length s) (12 + n)) (short_by ended) (Data n))

-- a record's header has 12 bytes, the first 4 of which are the length of its data
unfoldable pub next_record : List ℕ → Bool → Next
next_record s ended = pick (eqb (length s) 0) (empty_by ended) (pick (ltb (length s) 12) (short_by ended) (data_by s ended (little s 0 4)))

-- docs/RULES.md's number, 0 where there is none, of a record that the file cuts short or not: 8 precedes 9
abbrev pub next_number : Bool → Next → ℕ
next_number cut Cut = 8
next_number cut (Long n) = pick cut 8 9
next_number cut End = 0
next_number cut More = 0
next_number cut (Data n) = 0
