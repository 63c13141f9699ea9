-- The grammar of an input line of `pendlist`, given without its newline (document 01, "Cases"). Decided here:
-- the first word is exactly `c`, `o` or `d`; a line has at most 255 bytes, and a longer one is malformed whatever it
-- says: with leading zeros left out none has more than 106, and so a line fits a bounded buffer. What words and numbers
-- are is in pendlist_words (specs/Words.antt), what the words behind the first say in pendlist_commands
-- (specs/Commands.antt), how an input is parted into lines in pendlist_input (specs/Input.antt).
-- All else is malformed: an empty line, a tab, a carriage return, a sign, a word missing or too many.
use Rattle.std.specs.Prelude.{Option, Some, None, Bool, cond, false, List, ℕ, ◌+◌, length, eqb, leb}
use Rattle.pendlist_commands.specs.declared.Command.{Command}
use Rattle.pendlist_commands.specs.declared.Command.TheVariants.{Open, Offer, Drain}
pub use Rattle.pendlist_words.specs.Words.{word_at}
unfoldable pub use Rattle.pendlist_words.specs.Words.{words_of, is_byte, all_digits, value_from, number_from, number_of}
unfoldable pub use Rattle.pendlist_commands.specs.Commands.{ttl_of, within16, open_of, offer_of, drain_of}

-- whether the first word is this letter, and so many words stand behind it
unfoldable pub is_command : ℕ → ℕ → List (List ℕ) → Bool
is_command letter n ws = cond (is_byte letter (word_at 0 ws)) (eqb (length ws) (n + 1)) false

-- `c` with five words, `o` with three, `d` with two, and nothing else
unfoldable pub from_words : List (List ℕ) → Option Command
from_words ws =
    cond (is_command 99 5 ws) (open_of ws)
    (cond (is_command 111 3 ws) (offer_of ws)
    (cond (is_command 100 2 ws) (drain_of ws) None))

-- the most bytes of a line
abbrev pub longest : ℕ
longest = 255

-- what a line says
unfoldable pub line_of : List ℕ → Option Command
line_of line = cond (leb (length line) longest) (from_words (words_of line)) None

-- What is done with a line, given whether a cache is open: `c` opens one, once, and `o` and `d` need it ("an `o` or
-- `d` before any `c`, a second `c`").
abbrev pub in_order : Bool → Option Command → Option Command
in_order opened (Some (Open limits)) = cond opened None (Some (Open limits))
in_order opened (Some (Offer offer)) = cond opened (Some (Offer offer)) None
in_order opened (Some (Drain drain)) = cond opened (Some (Drain drain)) None
in_order opened None = None
