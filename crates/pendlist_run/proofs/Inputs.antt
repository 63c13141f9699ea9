-- The turns of an input, one read after the other. Assumes nothing.
use mathlib.Core.Path.{◌≡◌, refl, sym, ap, ◌∙◌}
use mathlib.Core.Bool.{Bool, true, false}
use mathlib.Core.List.{List, [], ◌∷◌, ◌++◌, append_assoc, append-nil}
use Rattle.std.specs.Prelude.{Option, Some, None, Result, Ok, Err, is_err, OnOk}
use Rattle.std.specs.Io.KnownBytes.{Appends, Consumes}
use Prim.Native.Nat.{ℕ, ◌+◌, ◌-◌, ◌≤◌}
use native.Mathlib.Omega.{arith}
use lib.ListN.{length, take, drop, length-take, take-append-drop, drop_of_length-le}
use lib.Seq.{take-take, take-add, drop_at, length-take-le}
use Rattle.std.proofs.lemmas.List.{take-append-le}
use borrow.Rule.Slice.PartMut.{put_mid, post_of, take_put}
use lib.Dec.{eqb}
use borrow.Author.Tests.{eq-eqb, ne_eqb, eqb-true}
use Rattle.pending_flows.specs.View.{Areas, areas_of, view}
use Rattle.pendlist_buffer.specs.declared.Turn.{Turn}
use Rattle.pendlist_run.specs.declared.program.Ended.TheVariants.{Input, Bad, Write, Reads}
use Rattle.pendlist_texts.specs.Lists.{ListState}
use Rattle.pendlist_turns.specs.Turns.{Standing, begun, with_turn, next_turn, turns_of, input_turns, joined}
use Rattle.pendlist_buffer.specs.Buffer.{turn_in, TakesTurn}
use Rattle.pendlist_run.specs.Program.{ReadsBehind, turns_in, HandsRows, RunsInput, RunsProgram}

-- a read more: its turn comes last
turns_more : (bytes words : ℕ) (reads : List (List ℕ)) (read : List ℕ) (s : Standing) →
    turns_of bytes words (reads ++ (read ∷ [])) s ≡ next_turn bytes words false read (turns_of bytes words reads s)
unfolding turns_of
turns_more bytes words [] read s = refl
turns_more bytes words (first ∷ reads) read s = turns_more bytes words reads read (next_turn bytes words false first s)

joined_more : (reads : List (List ℕ)) (read : List ℕ) → joined (reads ++ (read ∷ [])) ≡ joined reads ++ read
unfolding joined
joined_more [] read = append-nil read
joined_more (first ∷ reads) read = rw (joined_more reads read) (sym (append_assoc first (joined reads) read))

-- Known bytes, taken and added one after the other.
takes_none : (k : Option (List ℕ)) → Consumes k k []
takes_none None = tt
takes_none (Some xs) = refl

takes_more : (k k' k'' : Option (List ℕ)) (b c : List ℕ) → Consumes k k' b → Consumes k' k'' c → Consumes k k'' (b ++ c)
takes_more None k' k'' b c p q = tt
takes_more (Some xs) None k'' b c p q = absurd p
takes_more (Some xs) (Some ys) None b c p q = absurd q
takes_more (Some xs) (Some ys) (Some zs) b c p q = p ∙ ap (λ (l : List ℕ). b ++ l) q ∙ sym (append_assoc b c zs)

adds_none : (h : Option (List ℕ)) → Appends h h []
adds_none None = tt
adds_none (Some xs) = sym (append-nil xs)

pub adds_more : (h h' h'' : Option (List ℕ)) (b c : List ℕ) → Appends h h' b → Appends h' h'' c → Appends h h'' (b ++ c)
adds_more None h' h'' b c p q = tt
adds_more (Some xs) None h'' b c p q = absurd p
adds_more (Some xs) (Some ys) None b c p q = absurd q
adds_more (Some xs) (Some ys) (Some zs) b c p q = q ∙ ap (λ (l : List ℕ). l ++ c) p ∙ append_assoc xs b c

-- what is said of an `Ok`
pub said_at_ok : {T E P : Type 0} (r : Result T E) → false ≡ is_err r → OnOk r P → P
said_at_ok (Ok x) e h = h
said_at_ok (Err x) e h = cc

-- A read into the buffer behind its first bytes.
pub read_behind : (kept n : ℕ) (buffer part : List ℕ) (known known' : Option (List ℕ)) → kept ≤ length buffer →
    n ≤ length part → length part ≤ length buffer - kept → Consumes known known' (take n part) →
    ReadsBehind kept buffer known (kept + n) (put_mid kept (length buffer - kept) buffer part) known'
read_behind kept n buffer part known known' h few long taken =
    let whole : List ℕ = put_mid kept (length buffer - kept) buffer part in
    let front : take kept whole ≡ take kept buffer = take_put kept (length buffer - kept) buffer part h in
    let counted : length (take kept buffer) ≡ kept = length-take-le kept buffer h in
    let behind : drop kept whole ≡ part ++ post_of kept (length buffer - kept) buffer =
    drop_at (take kept buffer) (part ++ post_of kept (length buffer - kept) buffer) kept counted in
    let got : drop kept (take (kept + n) whole) ≡ take n part =
    rw (take-add kept n whole, front)
    (drop_at (take kept buffer) (take n (drop kept whole)) kept counted
    ∙ rw behind (take-append-le n part (post_of kept (length buffer - kept) buffer) few)) in
    record {
      no_fewer = omega arith;
      within = omega arith;
      front = front;
      taken = rw got taken;
    }

-- What the turns of some reads leave stands in the buffer and in the areas; none ended the list.
pub record InputAhead (a₀ : Areas) (known₀ held₀ : Option (List ℕ)) (kept : ℕ) (buffer : List ℕ) (opened : Bool)
    (a : Areas)
    (known held : Option (List ℕ)) : Type 0 where
  pub reads : List (List ℕ)
  pub keeps : (turns_in a₀ false reads).kept ≡ take kept buffer
  pub opens : (turns_in a₀ false reads).after.opened ≡ opened
  pub good : (turns_in a₀ false reads).after.bad ≡ false
  pub holds : (turns_in a₀ false reads).after.holds ≡ view a
  pub few_left : kept ≤ 255
  pub words_long : length a.words ≡ length a₀.words
  pub bytes_long : length a.bytes ≡ length a₀.bytes
  pub taken : Consumes known₀ known (joined reads)
  pub written : Appends held₀ held (turns_in a₀ false reads).rows

pub input_begins : (a : Areas) (known held : Option (List ℕ)) (buffer : List ℕ) → InputAhead a known held 0 buffer
    false a known held
unfolding input_turns turns_of joined
input_begins a known held buffer = record {
  reads = [];
  keeps = refl;
  opens = refl;
  good = refl;
  holds = refl;
  few_left = omega arith;
  words_long = refl;
  bytes_long = refl;
  taken = takes_none known;
  written = adds_none held;
}

-- Reads whose turns end with this one.
record TurnsEnd (a₀ : Areas) (known₀ known : Option (List ℕ)) (last : Bool) (rows : List ℕ) (t : Standing) : Type 0
  where
    reads : List (List ℕ)
    taken : Consumes known₀ known (joined reads)
    writes : (turns_in a₀ last reads).rows ≡ rows ++ t.rows
    keeps : (turns_in a₀ last reads).kept ≡ t.kept
    comes : (turns_in a₀ last reads).after ≡ t.after

module _ {a₀ a : Areas} {known₀ held₀ known held : Option (List ℕ)} {kept : ℕ} {buffer : List ℕ} {opened : Bool}
    (inv : InputAhead a₀ known₀ held₀ kept buffer opened a known held) where
  pub reads_over : RunsInput a₀ known₀ held₀ Reads a known held
  reads_over = record {
    reads = inv.reads;
    last = false;
    holds = sym inv.holds;
    ends = (refl, inv.good);
    taken = inv.taken;
    written = inv.written;
  }

  module _ {n : ℕ} {buffer₁ there' out' : List ℕ} {known' : Option (List ℕ)}
      (read : ReadsBehind kept buffer known n buffer₁ known') {r : Turn} {a' : Areas}
      (turn : TakesTurn (take n buffer₁) kept opened a r a' there' out') (long : n ≤ length buffer₁) where
    brought : List ℕ
    brought = drop kept (take n buffer₁)

    counted : length (take n buffer₁) ≡ n
    counted = length-take-le n buffer₁ long

    there : take n buffer₁ ≡ (turns_in a₀ false inv.reads).kept ++ brought
    unfolding brought
    there =
        sym (take-append-drop kept (take n buffer₁))
        ∙ rw (take-take kept n buffer₁ read.no_fewer, read.front, inv.keeps)

    -- a turn more
    next : Bool → List ℕ → Standing
    next last more =
        next_turn (length a₀.bytes) (length a₀.words) last more (turns_in a₀ false inv.reads)

    next_is : next (eqb n kept) brought
        ≡ with_turn (turns_in a₀ false inv.reads) (turn_in (take n buffer₁) kept opened a)
    unfolding next next_turn
    next_is = rw (inv.good, counted, ← there, inv.opens, inv.holds, inv.bytes_long, inv.words_long)

    pub rows_handed : HandsRows (take r.done.filled out')
    unfolding next
    rows_handed = record {
      first = a₀;
      reads = inv.reads;
      read = brought;
      last = eqb n kept;
      follows = ap (λ (s : Standing). s.rows) next_is ∙ rw turn.rows;
    }

    taken_all : Consumes known₀ known' (joined inv.reads ++ brought)
    unfolding brought
    taken_all = takes_more known₀ known known' (joined inv.reads) brought inv.taken read.taken

    -- the reads with this one; one that brought nothing is none of them
    by_end : (q : Bool) → eqb n kept ≡ q →
        TurnsEnd a₀ known₀ known' q (turns_in a₀ false inv.reads).rows (turn_in (take n buffer₁) kept opened a)
    unfolding input_turns brought next
    by_end true e =
        let few : length (take n buffer₁) ≤ kept = omega (arith, length-take n buffer₁, eqb-true n kept e) in
        let nothing : brought ≡ [] = drop_of_length-le (take n buffer₁) few in
        let same : next true [] ≡ with_turn (turns_in a₀ false inv.reads) (turn_in (take n buffer₁) kept opened a) =
        ap (next true) (sym nothing) ∙ ap (λ (q : Bool). next q brought) (sym e) ∙ next_is in
        record {
          reads = inv.reads;
          keeps = ap (λ (s : Standing). s.kept) same;
          comes = ap (λ (s : Standing). s.after) same;
          taken = rw (nothing, append-nil) at taken_all;
          writes = ap (λ (s : Standing). s.rows) same;
        }
    by_end false e =
        let all : turns_in a₀ false (inv.reads ++ (brought ∷ []))
        ≡ with_turn (turns_in a₀ false inv.reads) (turn_in (take n buffer₁) kept opened a) =
        turns_more (length a₀.bytes) (length a₀.words) inv.reads brought (begun (view a₀))
        ∙ ap (λ (q : Bool). next q brought) (sym e)
        ∙ next_is in
        record {
          reads = inv.reads ++ (brought ∷ []);
          keeps = ap (λ (s : Standing). s.kept) all;
          comes = ap (λ (s : Standing). s.after) all;
          taken = rw (joined_more inv.reads brought) taken_all;
          writes = ap (λ (s : Standing). s.rows) all;
        }

    turned : TurnsEnd a₀ known₀ known' (eqb n kept) (turns_in a₀ false inv.reads).rows (turn_in (take n buffer₁) kept opened a)
    turned = by_end (eqb n kept) refl

    holds_so : view a' ≡ (turns_in a₀ (eqb n kept) turned.reads).after.holds
    holds_so = turn.holds ∙ ap (λ (k : ListState). k.holds) (sym turned.comes)

    bad_so : {bad : Bool} → r.done.bad ≡ bad → (turns_in a₀ (eqb n kept) turned.reads).after.bad ≡ bad
    bad_so e = ap (λ (k : ListState). k.bad) turned.comes ∙ sym turn.bad_after ∙ e

    pub write_failed : {held' : Option (List ℕ)} → RunsInput a₀ known₀ held₀ Write a' known' held'
    write_failed = record {
      reads = turned.reads;
      last = eqb n kept;
      holds = holds_so;
      ends = tt;
      taken = turned.taken;
      written = tt;
    }

    -- all rows of the turn were written
    module _ (held' : Option (List ℕ)) (wrote : Appends held held' (take r.done.filled out')) where
      rows_more : {last : Bool} (t : TurnsEnd a₀ known₀ known' last (turns_in a₀ false inv.reads).rows
          (turn_in (take n buffer₁) kept opened a)) →
          Appends held₀ held' (turns_in a₀ last t.reads).rows
      rows_more t = rw (t.writes, ← turn.rows)
          (adds_more held₀ held held' (turns_in a₀ false inv.reads).rows (take r.done.filled out') inv.written wrote)

      pub list_bad : r.done.bad ≡ true → RunsInput a₀ known₀ held₀ Bad a' known' held'
      list_bad e = record {
        reads = turned.reads;
        last = eqb n kept;
        holds = holds_so;
        ends = bad_so e;
        taken = turned.taken;
        written = rows_more turned;
      }

      pub input_over : r.done.bad ≡ false → n ≡ kept → RunsInput a₀ known₀ held₀ Input a' known' held'
      input_over good e = record {
        reads = turned.reads;
        last = eqb n kept;
        holds = holds_so;
        ends = (eq-eqb n kept e, bad_so good);
        taken = turned.taken;
        written = rows_more turned;
      }

      pub input_goes_on : r.done.bad ≡ false → (n ≡ kept → ⊥) → length a'.words ≡ length a.words →
          length a'.bytes ≡ length a.bytes → length there' ≡ n →
          InputAhead a₀ known₀ held₀ r.kept (put_mid 0 n buffer₁ there') r.done.opened a' known' held'
      input_goes_on good more w b same =
          let within : r.kept ≤ length there' = omega (arith, turn.among, counted) in
          let e : eqb n kept ≡ false = ne_eqb n kept more in
          let t : TurnsEnd a₀ known₀ known' false (turns_in a₀ false inv.reads).rows (turn_in (take n buffer₁) kept opened a) =
          by_end false e in
          record {
            reads = t.reads;
            keeps =
                t.keeps ∙ sym turn.left
                ∙ sym (take-append-le r.kept there' (post_of 0 n buffer₁) within);
            opens = ap (λ (k : ListState). k.opened) t.comes ∙ sym turn.open_after;
            good = ap (λ (k : ListState). k.bad) t.comes ∙ sym turn.bad_after ∙ good;
            holds = ap (λ (k : ListState). k.holds) t.comes ∙ sym turn.holds;
            few_left = turn.few_left;
            words_long = w ∙ inv.words_long;
            bytes_long = b ∙ inv.bytes_long;
            taken = t.taken;
            written = rows_more t;
          }

-- The header's write failed, and no line was carried out.
pub header_failed : (known held held' : Option (List ℕ)) (words bytes : List ℕ) → length words ≡ 4096 →
    length bytes ≡ 16384 → RunsProgram known held Write known held'
unfolding input_turns turns_of joined
header_failed known held held' words bytes w b = record {
  first = areas_of words bytes;
  last = areas_of words bytes;
  bytes_long = b;
  words_long = w;
  begun = held;
  begins = tt;
  runs = record { reads = []; last = false; holds = refl; ends = tt; taken = takes_none known; written = tt };
  table = tt;
}
