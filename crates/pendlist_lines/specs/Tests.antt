-- What lines say, document 01's five first, and what is malformed. Proved by computation.
use Rattle.std.specs.Prelude.{◌≡◌, refl, Option, Some, None, List, [], ◌∷◌, ◌++◌, map, ℕ, true, false, replicate}
use Prim.Native.String.{String}
use Rattle.pendlist_commands.specs.declared.Command.{Command}
use Rattle.pendlist_commands.specs.declared.Command.TheVariants.{Open, Offer, Drain}
use Rattle.pendlist_lines.specs.Grammar.{words_of, is_byte, all_digits, value_from, number_from, number_of, ttl_of}
use Rattle.pendlist_lines.specs.Grammar.{within16, open_of, offer_of, drain_of, is_command}
use Rattle.pendlist_lines.specs.Grammar.{from_words, line_of, in_order}
pub use Rattle.pendlist_words.specs.Texts.{bytes_of}

abbrev says : String → Option Command
says s = line_of (bytes_of s)

abbrev opens : ℕ → ℕ → ℕ → ℕ → Option ℕ → Option Command
opens templates entries size total t = Some (Open (record {
  max_pending_flows = templates;
  max_entries_per_template = entries;
  max_entry_size_bytes = size;
  max_total_bytes = total;
  ttl = t;
}))

abbrev offers : ℕ → ℕ → ℕ → Option Command
offers i n t = Some (Offer (record { id = i; len = n; clock = t }))

abbrev drains : ℕ → ℕ → Option Command
drains i t = Some (Drain (record { id = i; clock = t }))

-- document 01's lines
pub document_lines :
    map says ("c 2 2 10 16 100" ∷ "o 300 6 0" ∷ "o 301 8 1" ∷ "o 300 4 2" ∷ "d 301 3" ∷ [])
    ≡ opens 2 2 10 16 (Some 100) ∷ offers 300 6 0 ∷ offers 301 8 1 ∷ offers 300 4 2 ∷ drains 301 3 ∷ []
unfolding words_of is_byte all_digits value_from number_from number_of ttl_of within16 open_of offer_of
    drain_of is_command from_words line_of
document_lines = refl

-- no TTL; leading zeros; the largest number, id and length; limits that opening will refuse
pub lines_taken :
    map says
    ("c 2 2 10 16 -" ∷ "c 02 002 010 16 0" ∷ "d 0000000000000000000000301 03" ∷ "d 0 18446744073709551615"
    ∷ "o 65535 65535 0" ∷ "d 65535 0" ∷ "c 0 0 0 18446744073709551615 18446744073709551615" ∷ [])
    ≡ opens 2 2 10 16 None ∷ opens 2 2 10 16 (Some 0) ∷ drains 301 3 ∷ drains 0 18446744073709551615
    ∷ offers 65535 65535 0 ∷ drains 65535 0 ∷ opens 0 0 0 18446744073709551615 (Some 18446744073709551615) ∷ []
unfolding words_of is_byte all_digits value_from number_from number_of ttl_of within16 open_of offer_of
    drain_of is_command from_words line_of
lines_taken = refl

-- blanks too few, too many, or none; other white space
abbrev blanks : List String
blanks =
    "" ∷ " " ∷ " d 301 3" ∷ "d 301 3 " ∷ "d  301 3" ∷ "d 301  3" ∷ "o 300  0" ∷ "d301 3" ∷ "d 3013" ∷ "d 301\t3"
    ∷ "d 301 3\r" ∷ "d\t301 3" ∷ []

-- words missing and too many
abbrev counts : List String
counts =
    "c" ∷ "o" ∷ "d" ∷ "d 301" ∷ "d 301 3 4" ∷ "o 300 6" ∷ "o 300 6 0 1" ∷ "c 2 2 10 16" ∷ "c 2 2 10 16 100 7" ∷ []

-- other first words
abbrev letters : List String
letters = "x 301 3" ∷ "D 301 3" ∷ "dd 301 3" ∷ "301 3 3" ∷ "o 301 3" ∷ "d 300 6 0" ∷ "c 300 6 0" ∷ "- 301 3" ∷ []

-- no numbers: a letter, the bytes beside the digits, a sign, `-` for no clock or no limit
abbrev numbers : List String
numbers =
    "d 3a1 3" ∷ "d a 3" ∷ "d 30/ 3" ∷ "d 30: 3" ∷ "d +301 3" ∷ "d -301 3" ∷ "d 301 -" ∷ "d - 3" ∷ "o 300 6 -"
    ∷ "o 300 - 0" ∷ "c - 2 10 16 100" ∷ "c 2 - 10 16 100" ∷ "c 2 2 - 16 100" ∷ "c 2 2 10 - 100" ∷ "c 2 2 10 16 --"
    ∷ "c 2 2 10 16 -1" ∷ "c 2 2 10 16 x" ∷ []

-- too large
abbrev large : List String
large =
    "d 65536 3" ∷ "o 65536 6 0" ∷ "o 300 65536 0" ∷ "o 300 6 18446744073709551616" ∷ "d 301 18446744073709551616"
    ∷ "d 301 100000000000000000000" ∷ "c 18446744073709551616 2 10 16 100" ∷ "c 2 2 10 16 18446744073709551616" ∷ []

pub lines_malformed : map says (blanks ++ (counts ++ (letters ++ (numbers ++ large))))
    ≡ map (λ s. None) (blanks ++ (counts ++ (letters ++ (numbers ++ large))))
unfolding words_of is_byte all_digits value_from number_from number_of ttl_of within16 open_of offer_of
    drain_of is_command from_words line_of
lines_malformed = refl

-- a drain of id 301 with so many zeros in front of its clock reading, 3: the line has seven bytes more
abbrev padded : ℕ → Option Command
padded zeros = line_of (bytes_of "d 301 " ++ (replicate zeros 48 ++ bytes_of "3"))

-- the longest line, and one byte more
pub length_of_lines : (padded 248 ≡ drains 301 3) × (padded 249 ≡ None)
unfolding words_of is_byte all_digits value_from number_from number_of ttl_of within16 open_of offer_of
    drain_of is_command from_words line_of
length_of_lines = (refl, refl)

-- `c` comes first and once
pub lines_in_order :
    map (in_order false) (opens 2 2 10 16 None ∷ offers 300 6 0 ∷ drains 301 3 ∷ None ∷ [])
    ≡ opens 2 2 10 16 None ∷ None ∷ None ∷ None ∷ []
lines_in_order = refl

pub lines_in_order_after :
    map (in_order true) (opens 2 2 10 16 None ∷ offers 300 6 0 ∷ drains 301 3 ∷ None ∷ [])
    ≡ None ∷ offers 300 6 0 ∷ drains 301 3 ∷ None ∷ []
lines_in_order_after = refl
