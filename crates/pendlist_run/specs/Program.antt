-- The program: how it ends, by what its reads brought.
use Rattle.std.specs.Prelude.{◌≡◌, Bool, true, false, List, ◌++◌, ℕ, ◌≤◌, length, take, drop, Option, codes}
use Rattle.std.specs.Io.KnownBytes.{Appends, Consumes}
use Rattle.pending_flows.specs.View.{Areas, view}
use Rattle.pendlist_run.specs.declared.program.Ended.{Ended}
use Rattle.pendlist_run.specs.declared.program.Ended.TheVariants.{Input, Bad, Write, Reads}
use Rattle.pendlist_texts.specs.Lists.{rows_of_text}
use Rattle.pendlist_turns.specs.Turns.{Standing, next_turn, input_turns, joined}

-- A read behind the buffer's first bytes, which stay; r bytes are then there. Where the reader's bytes are known, those
-- behind the first ones are the next of them.
pub record ReadsBehind (kept : ℕ) (buffer : List ℕ) (known : Option (List ℕ)) (r : ℕ) (buffer' : List ℕ)
    (known' : Option (List ℕ)) : Type 0 where
  pub no_fewer : kept ≤ r
  pub within : r ≤ length buffer
  pub front : take kept buffer' ≡ take kept buffer
  pub taken : Consumes known known' (drop kept (take r buffer'))

-- the turns of an input, in these areas
abbrev pub turns_in : Areas → (last : Bool) → List (List ℕ) → Standing
turns_in a last reads = input_turns (length a.bytes) (length a.words) last reads (view a)

-- What is handed to a write are the rows of a turn: those that it adds to the rows of the turns before it. There are
-- bytes that the reads brought so far, and those of one read more.
pub record HandsRows (rows : List ℕ) : Type 0 where
  pub first : Areas
  pub reads : List (List ℕ)
  pub read : List ℕ
  pub last : Bool
  pub follows : (next_turn (length first.bytes) (length first.words) last read (turns_in first false reads)).rows
      ≡ (turns_in first false reads).rows ++ rows

-- Whether a program ends so, by whether the input's end was read and whether the list ended with `bad`. A write can
-- fail anywhere.
abbrev pub EndsSo : Ended → (last bad : Bool) → Type 0
EndsSo Input last bad = (last ≡ true) × (bad ≡ false)
EndsSo Bad last bad = bad ≡ true
EndsSo Write last bad = Unit {0}
EndsSo Reads last bad = (last ≡ false) × (bad ≡ false)

-- what holds unless a write failed
abbrev pub UnlessWrite : Ended → Type 0 → Type 0
UnlessWrite Input P = P
UnlessWrite Bad P = P
UnlessWrite Write P = Unit {0}
UnlessWrite Reads P = P

-- Carrying out an input: there are bytes that its reads brought, and the turns of these reads, and of no others, leave
-- what the areas hold. Where the reader's bytes are known, these are the first of them; where the writer's are known
-- and no write failed, the rows of the turns, and nothing else, are added to them.
pub record RunsInput (a : Areas) (known held : Option (List ℕ)) (r : Ended) (a' : Areas) (known' held' : Option (List ℕ))
    : Type 0 where
  pub reads : List (List ℕ)
  pub last : Bool
  pub holds : view a' ≡ (turns_in a last reads).after.holds
  pub ends : EndsSo r last (turns_in a last reads).after.bad
  pub taken : Consumes known known' (joined reads)
  pub written : UnlessWrite r (Appends held held' (turns_in a last reads).rows)

-- the line "call answer held bytes cached dropped"
abbrev pub header : List ℕ
header = codes "call answer held bytes cached dropped\n"

-- what holds where a list was carried out to its end, or to `bad`
abbrev pub OfWhole : Ended → Type 0 → Type 0
OfWhole Input P = P
OfWhole Bad P = P
OfWhole Write P = Unit {0}
OfWhole Reads P = Unit {0}

-- The program does so in areas of document 01's lengths, behind the header. However the list was cut into reads, what is
-- written of all of it is the header and the rows of its lines.
pub record RunsProgram (known held : Option (List ℕ)) (r : Ended) (known' held' : Option (List ℕ)) : Type 0 where
  pub first : Areas
  pub last : Areas
  pub bytes_long : length first.bytes ≡ 16384
  pub words_long : length first.words ≡ 4096
  pub begun : Option (List ℕ)
  pub begins : UnlessWrite r (Appends held begun header)
  pub runs : RunsInput first known begun r last known' held'
  pub table : OfWhole r (Appends held held' (header ++ rows_of_text false (joined runs.reads) first))
