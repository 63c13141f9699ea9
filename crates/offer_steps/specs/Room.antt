-- Room for a body behind the others, and the body in it.
use Rattle.std.specs.Prelude.{Option, Some, None}
use Rattle.std.specs.Prelude.{◌≡◌, List, [], ◌∷◌, ◌++◌, Bool, true, cond, ℕ, ◌+◌, ◌*◌, ◌≤◌, ◌<◌, leb, length, take, drop}
use Rattle.areas.specs.Overwrite.{put_at}
use Rattle.config.specs.declared.PendingFlowsConfig.{PendingFlowsConfig}
use Rattle.config.specs.Limits.{record_words, entry_words, max_bodies, words_needed}
use Rattle.table.specs.declared.Entry.{Entry}
use Rattle.table.specs.declared.TemplateRecord.{TemplateRecord}
use Rattle.table.specs.Layout.{entries_at, records_at}
use Rattle.table.specs.Table.{entries_from, records_from, index_from}
use Rattle.table.specs.WellFormed.{places_legal, index_rises}
use Rattle.table_entries.specs.Pack.{last_end, packed_entries, packed_end, packed_bytes}
use Rattle.table_records.specs.Add.{inserted}
use Rattle.table_records.specs.Choose.{FreeLabel}

-- whether a body of this length fits behind the last one; else the bodies are moved together
abbrev pub fits_behind : ℕ → ℕ → List Entry → Bool
fits_behind len most es = leb (last_end es + len) most

-- the entries then, the bytes, and where the body goes
abbrev pub room_entries : ℕ → ℕ → List Entry → List Entry
room_entries len most es = cond (fits_behind len most es) es (packed_entries 0 es)

abbrev pub room_bytes : ℕ → ℕ → List Entry → List ℕ → List ℕ
room_bytes len most es b = cond (fits_behind len most es) b (packed_bytes 0 es b)

abbrev pub room_place : ℕ → ℕ → List Entry → ℕ
room_place len most es = cond (fits_behind len most es) (last_end es) (packed_end 0 es)

-- behind m entries; no other word changes
pub record MakesRoom (m len most : ℕ) (w b w' b' : List ℕ) (r : ℕ) : Type 0 where
  pub entries : entries_from w' entries_at m ≡ room_entries len most (entries_from w entries_at m)
  pub bytes : b' ≡ room_bytes len most (entries_from w entries_at m) b
  pub place : r ≡ room_place len most (entries_from w entries_at m)
  pub head : take entries_at w' ≡ take entries_at w
  pub tail : drop (entries_at + entry_words * m) w' ≡ drop (entries_at + entry_words * m) w

abbrev pub entry_of : ℕ → ℕ → List ℕ → ℕ → Entry
entry_of label place body clock = record { label = label; place = place; len = length body; clock = clock }

-- an entry behind m others, and its body's bytes; nothing else changes
pub record StoresBody (m : ℕ) (e : Entry) (body w b w' b' : List ℕ) : Type 0 where
  pub entries : entries_from w' entries_at (m + 1) ≡ entries_from w entries_at m ++ (e ∷ [])
  pub bytes : b' ≡ put_at e.place body b
  pub head : take entries_at w' ≡ take entries_at w
  pub tail : drop (entries_at + entry_words * (m + 1)) w' ≡ drop (entries_at + entry_words * (m + 1)) w

-- k records and m entries leave room for one more of each, and their bodies for one of this length
pub record RoomFor (l : PendingFlowsConfig) (k m len : ℕ) (w b : List ℕ) : Type 0 where
  pub entries_fit : m < max_bodies l
  pub records_fit : k < l.max_pending_flows
  pub bodies_few : max_bodies l ≤ 262144
  pub total_small : l.max_total_bytes ≤ 67108864
  pub words_enough : words_needed l ≤ length w
  pub bytes_enough : l.max_total_bytes ≤ length b
  pub placed : places_legal 0 l.max_total_bytes (entries_from w entries_at m) ≡ true
  pub body_fits : packed_end 0 (entries_from w entries_at m) + len ≤ l.max_total_bytes
  pub rises : index_rises (records_from w (records_at l) k) 0 (index_from w (records_at l) k) ≡ true

-- the entry of a body that is put behind the others
abbrev pub new_entry : PendingFlowsConfig → ℕ → List ℕ → ℕ → List Entry → Entry
new_entry l label body clock es =
    entry_of label (room_place (length body) l.max_total_bytes es) body clock

-- behind m entries an entry of the record r and its body's bytes, and r behind k records; no word behind them changes
pub record AddsBody (l : PendingFlowsConfig) (k m : ℕ) (r : TemplateRecord) (body : List ℕ) (clock : ℕ)
    (w b w' b' : List ℕ) : Type 0 where
  pub entries : entries_from w' entries_at (m + 1)
      ≡ room_entries (length body) l.max_total_bytes (entries_from w entries_at m)
      ++ (new_entry l r.label body clock (entries_from w entries_at m) ∷ [])
  pub bytes : b' ≡ put_at (room_place (length body) l.max_total_bytes (entries_from w entries_at m)) body
      (room_bytes (length body) l.max_total_bytes (entries_from w entries_at m) b)
  pub records : records_from w' (records_at l) (k + 1) ≡ records_from w (records_at l) k ++ (r ∷ [])
  pub index : index_from w' (records_at l) (k + 1)
      ≡ inserted (records_from w (records_at l) k) r.key k (index_from w (records_at l) k)
  pub behind : drop (records_at l + record_words * (k + 1)) w' ≡ drop (records_at l + record_words * (k + 1)) w

-- the label of the id's template, or, where it has none, one that none of these records has
pub record ChoosesLabel (label : Option ℕ) (rs : List TemplateRecord) (r : ℕ) : Type 0 where
  pub held : (k : ℕ) → label ≡ Some k → r ≡ k
  pub free : label ≡ None → FreeLabel rs r
