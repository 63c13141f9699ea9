-- What the program's end says of the list that it read: of all its lines, or of those up to `bad`. Assumes nothing.
use mathlib.Core.Path.{◌≡◌, refl, sym, ap, ◌∙◌}
use mathlib.Core.Bool.{Bool, true, false}
use mathlib.Core.List.{List, [], ◌++◌, append-nil}
use Rattle.std.specs.Prelude.{Option}
use Rattle.std.specs.Io.KnownBytes.{Appends}
use Prim.Native.Nat.{ℕ}
use lib.ListN.{length}
use Rattle.pending_flows.specs.View.{Areas, view}
use Rattle.pendlist_texts.specs.Lists.{ListState, after_text, rows_of_text}
use Rattle.pendlist_turns.specs.Turns.{joined}
use Rattle.pendlist_turns.proofs.Cuts.{after_input, after_bad, rows_of_input, rows_to_bad}
use Rattle.pendlist_run.specs.declared.program.Ended.TheVariants as Ends
use Rattle.pendlist_run.specs.declared.program.Ended.{Ended}
use Rattle.pendlist_run.specs.Program.{turns_in, header, RunsInput, RunsProgram}
use Rattle.pendlist_run.proofs.Inputs.{adds_more}

list_read : (a : Areas) (last : Bool) (reads : List (List ℕ)) →
    (last ≡ false → (turns_in a last reads).after.bad ≡ true) →
    (turns_in a last reads).after ≡ after_text false (joined reads) a
list_read a true reads ended = after_input (length a.bytes) (length a.words) reads (view a)
list_read a false reads ended =
    rw append-nil at (after_bad (length a.bytes) (length a.words) reads (view a) (ended refl) [])

rows_read : (a : Areas) (last : Bool) (reads : List (List ℕ)) →
    (last ≡ false → (turns_in a last reads).after.bad ≡ true) →
    (turns_in a last reads).rows ≡ rows_of_text false (joined reads) a
rows_read a true reads ended = rows_of_input (length a.bytes) (length a.words) reads (view a)
rows_read a false reads ended =
    rw append-nil at (rows_to_bad (length a.bytes) (length a.words) reads (view a) (ended refl) [])

-- the header, and behind it the rows of the lines that were read
module _ (a a' : Areas) (known held begun known' held' : Option (List ℕ)) (begins : Appends held begun header) where
  all_written : (last : Bool) (reads : List (List ℕ)) → (last ≡ false → (turns_in a last reads).after.bad ≡ true) →
      Appends begun held' (turns_in a last reads).rows → Appends held held'
      (header ++ rows_of_text false (joined reads) a)
  all_written last reads ended written =
      rw (← rows_read a last reads ended) (adds_more held begun held' header (turns_in a last reads).rows begins
      written)

  pub whole_table : (run : RunsInput a known begun Ends.Input a' known' held') →
      Appends held held' (header ++ rows_of_text false (joined run.reads) a)
  whole_table run = all_written run.last run.reads (λ e. cc run.ends.0) run.written

  pub bad_table : (run : RunsInput a known begun Ends.Bad a' known' held') →
      Appends held held' (header ++ rows_of_text false (joined run.reads) a)
  bad_table run = all_written run.last run.reads (λ e. run.ends) run.written

-- The program, by how it ended: its table too.
module _ {a a' : Areas} {known begun known' held' : Option (List ℕ)} (held : Option (List ℕ))
    (b : length a.bytes ≡ 16384)
    (w : length a.words ≡ 4096) (begins : Appends held begun header) where
  pub program_done : {r : Ended} → RunsInput a known begun r a' known' held' → RunsProgram known held r known' held'
  program_done {r = Ends.Input} run = record {
    first = a;
    last = a';
    bytes_long = b;
    words_long = w;
    begun = begun;
    begins = begins;
    runs = run;
    table = whole_table a a' known held begun known' held' begins run;
  }
  program_done {r = Ends.Bad} run = record {
    first = a;
    last = a';
    bytes_long = b;
    words_long = w;
    begun = begun;
    begins = begins;
    runs = run;
    table = bad_table a a' known held begun known' held' begins run;
  }
  program_done {r = Ends.Write} run = record {
    first = a;
    last = a';
    bytes_long = b;
    words_long = w;
    begun = begun;
    begins = tt;
    runs = run;
    table = tt;
  }
  program_done {r = Ends.Reads} run = record {
    first = a;
    last = a';
    bytes_long = b;
    words_long = w;
    begun = begun;
    begins = begins;
    runs = run;
    table = tt;
  }

-- final facts, which no proof cites
module _ {a a' : Areas} {known held known' held' : Option (List ℕ)} where
  pub whole_list : (run : RunsInput a known held Ends.Input a' known' held') →
      ((after_text false (joined run.reads) a).bad ≡ false)
      × (view a' ≡ (after_text false (joined run.reads) a).holds)
  whole_list run =
      let all : (turns_in a run.last run.reads).after ≡ after_text false (joined run.reads) a =
      list_read a run.last run.reads (λ e. cc run.ends.0) in
      (sym (ap (λ (k : ListState). k.bad) all) ∙ run.ends.1, run.holds ∙ ap (λ (k : ListState). k.holds) all)

  pub bad_list : (run : RunsInput a known held Ends.Bad a' known' held') →
      ((after_text false (joined run.reads) a).bad ≡ true)
      × (view a' ≡ (after_text false (joined run.reads) a).holds)
  bad_list run =
      let all : (turns_in a run.last run.reads).after ≡ after_text false (joined run.reads) a =
      list_read a run.last run.reads (λ e. run.ends) in
      (sym (ap (λ (k : ListState). k.bad) all) ∙ run.ends, run.holds ∙ ap (λ (k : ListState). k.holds) all)
