-- Document 01's table, and lists that end with `bad`. Proved by computation.
use Rattle.std.specs.Prelude.{◌≡◌, refl, false, List, [], ◌∷◌, map, ℕ}
use Rattle.std.proofs.Math.Option.{none}
use Prim.Native.String.{String}
use Rattle.config.specs.Limits.{limits_number, areas_hold, config_number}
use Rattle.pendlist_lines.specs.Grammar.{words_of, is_byte, all_digits, value_from, number_from, number_of, ttl_of}
use Rattle.pendlist_lines.specs.Grammar.{within16, open_of, offer_of, drain_of, is_command}
use Rattle.pendlist_lines.specs.Grammar.{from_words, line_of}
use Rattle.pendlist_input.specs.Input.{lines_of}
use Rattle.pendlist_input.specs.Body.{ramp}
use Rattle.pendlist_lines.specs.Tests.{bytes_of}
use Rattle.cache_model.specs.Removal.{evicted, evictions, pruned}
use Rattle.cache_model.specs.Offer.{appended, step2, step3, step4, step5, add_newest, step4or5, after_step3, after_step2}
use Rattle.cache_model.specs.Offer.{steps2to5, refused_size, settled, offered}
use Rattle.cache_model.specs.Calls.{drained}
use Rattle.cache_model.specs.Queries.{figures}
use Rattle.cache_model.specs.Reply.{opening}
use Rattle.pendlist_calls.specs.Steps.{row_after, step_of}
use Rattle.pendlist_rows.specs.Text.{places_from, decimal_of, numbers_text}
use Rattle.pendlist_texts.specs.Lists.{rows_of}

-- what is written of an input behind the header, in the program's areas, which hold no cache at first
abbrev table : String → List ℕ
table input = rows_of 16384 4096 (lines_of (bytes_of input)) false none

pub document_table :
    table "c 2 2 10 16 100\no 300 6 0\no 301 8 1\no 300 4 2\nd 301 3\n"
    ≡ bytes_of "o 0 1 6 1 0\no 0 2 14 2 0\no 0 2 12 3 1\nd 1 1 4 3 1\n"
unfolding limits_number areas_hold config_number words_of is_byte all_digits value_from number_from number_of ttl_of
    within16 open_of offer_of drain_of is_command from_words line_of lines_of ramp evicted evictions pruned step2
    step3 step4 step5 add_newest step4or5 after_step3 after_step2 steps2to5 appended refused_size settled offered drained
    figures opening row_after step_of places_from decimal_of numbers_text rows_of
document_table = refl

-- A last line without a newline is a line. Nothing follows `bad`: an `o` or a `d` before `c`, a second `c`, a refused
-- `c`, a length above 65,535, an empty line, a carriage return.
pub ends_right :
    map table
    ("" ∷ "c 2 2 10 16 -" ∷ "c 2 2 10 16 -\no 300 6 0" ∷ "o 300 6 0\nc 2 2 10 16 -\n" ∷ "d 300 0\n"
    ∷ "c 2 2 10 16 -\no 300 6 0\nc 2 2 10 16 -\no 300 6 0\n" ∷ "c 2 2 10 9 -\n" ∷ "c 2 2 10 16 -\no 300 65536 0\n"
    ∷ "c 2 2 10 16 -\n\no 300 6 0\n" ∷ "c 2 2 10 16 -\r\n" ∷ [])
    ≡ map bytes_of
    ("" ∷ "" ∷ "o 0 1 6 1 0\n" ∷ "bad\n" ∷ "bad\n" ∷ "o 0 1 6 1 0\nbad\n" ∷ "bad\n" ∷ "bad\n" ∷ "bad\n" ∷ "bad\n"
    ∷ [])
unfolding limits_number areas_hold config_number words_of is_byte all_digits value_from number_from number_of ttl_of
    within16 open_of offer_of drain_of is_command from_words line_of lines_of ramp evicted evictions pruned step2
    step3 step4 step5 add_newest step4or5 after_step3 after_step2 steps2to5 appended refused_size settled offered drained
    figures opening row_after step_of places_from decimal_of numbers_text rows_of
ends_right = refl
