-- A line by its columns: where each field stands, and that a line tells its record.
use mathlib.Core.Path.{◌≡◌, refl, sym, ap, subst, ◌∙◌}
use mathlib.Core.List.{List, [], ◌∷◌, ◌++◌}
use Prim.Native.Nat.{ℕ, zero, suc, ◌+◌, ◌-◌, ◌^◌, ◌≤◌, ◌<◌}
use native.Mathlib.Omega.{arith}
use lib.Dec.{eqb}
use mathlib.Core.Bool.{cond}
use lib.ListN.{length, get_or, take, drop, replicate, length-append}
use lib.Seq.{take_at, drop_at, drop-drop}
use Rattle.model.specs.Word.{part}
use Rattle.model.specs.Text.{last_digits, decimal, padded}
use Rattle.model.specs.Listing.{gap, in_columns, line_bytes, heading, kind_name, Shown, shown_change, shown_close, Listed, line_of}
use Rattle.model.specs.ListingLaws.{number_shown, ClearShown, Clear, Columns, ColumnsOf, LineColumns, HeadingColumns, LineTells}
use Rattle.model.proofs.Text.{length_padded, digits_most, digits_below, said, said_padded}

-- What stands at a place is its part, and behind it stands the rest.
stands : (line field rest : List ℕ) (at n : ℕ) → drop at line ≡ field ++ rest → length field ≡ n
    → (part at n line ≡ field) × (drop (at + n) line ≡ rest)
unfolding part
stands line field rest at n e l = (ap (take n) e ∙ take_at field rest n l, sym (drop-drop n at line) ∙ ap (drop n) e ∙ drop_at field rest n l)

-- Seven texts that are no longer than their columns.
pub record Fits (disk position kind transaction page slot width : List ℕ) : Type 0 where
  pub disk_fits : length disk ≤ 1
  pub position_fits : length position ≤ 20
  pub kind_fits : length kind ≤ 12
  pub transaction_fits : length transaction ≤ 20
  pub page_fits : length page ≤ 3
  pub slot_fits_lem : length slot ≤ 4
  pub width_fits : length width ≤ 3

pub columns_stand : (disk position kind transaction page slot width : List ℕ) → Fits disk position kind transaction page slot width
    → Columns (in_columns disk position kind transaction page slot width) disk position kind transaction page slot width
unfolding in_columns
columns_stand disk position kind transaction page slot width f =
    let d = length_padded 1 disk f.disk_fits in
    let p = length_padded 20 position f.position_fits in
    let k = length_padded 12 kind f.kind_fits in
    let t = length_padded 20 transaction f.transaction_fits in
    let g = length_padded 3 page f.page_fits in
    let s = length_padded 4 slot f.slot_fits_lem in
    let w = length_padded 3 width f.width_fits in
    let line = in_columns disk position kind transaction page slot width in
    let a = stands line (padded 1 disk) _ 0 1 refl d in
    let b = stands line gap _ 1 3 a.1 refl in
    let c = stands line (padded 20 position) _ 4 20 b.1 p in
    let e = stands line gap _ 24 3 c.1 refl in
    let h = stands line (padded 12 kind) _ 27 12 e.1 k in
    let i = stands line gap _ 39 3 h.1 refl in
    let j = stands line (padded 20 transaction) _ 42 20 i.1 t in
    let l = stands line (padded 3 page) _ 62 3 j.1 g in
    let m = stands line (padded 4 slot) _ 65 4 l.1 s in
    let n = stands line (padded 3 width) _ 69 3 m.1 w in
    record {
      long = simp (length-append, d, p, k, t, g, s, w);
      disk_at_lem = a.0;
      gap_behind_disk = b.0;
      position_at = c.0;
      gap_behind_position = e.0;
      kind_at = h.0;
      gap_behind_kind = i.0;
      transaction_at = j.0;
      page_at_lem = l.0;
      slot_at = m.0;
      width_at = n.0;
      ends = (stands line (10 ∷ []) [] 72 1 n.1 refl).0;
    }

-- The four kinds, one by one.
each_kind : (P : ℕ → Type 0) → P 0 → P 1 → P 2 → P 3 → (kind : ℕ) → kind < 4 → P kind
each_kind P a b c d zero h = a
each_kind P a b c d (suc zero) h = b
each_kind P a b c d (suc (suc zero)) h = c
each_kind P a b c d (suc (suc (suc zero))) h = d
each_kind P a b c d (suc (suc (suc (suc n)))) h = absurd (omega arith)

kind_fit : (kind : ℕ) → kind < 4 → length (kind_name kind) ≤ 12
unfolding kind_name
kind_fit = each_kind (λ (kind : ℕ). length (kind_name kind) ≤ 12) (omega arith) (omega arith) (omega arith) (omega arith)

-- A name's letter before the last tells its kind: t, o, i or r.
abbrev kind_said : List ℕ → ℕ
kind_said field = cond (eqb (get_or field 10 0) 116) 0 (cond (eqb (get_or field 10 0) 111) 1 (cond (eqb (get_or field 10 0) 105) 2 3))

kind_said_lem : (kind : ℕ) → kind < 4 → kind_said (padded 12 (kind_name kind)) ≡ kind
unfolding kind_name padded
kind_said_lem = each_kind (λ (kind : ℕ). kind_said (padded 12 (kind_name kind)) ≡ kind) refl refl refl refl

-- The line of a record.
pub line_columns : LineColumns
unfolding LineColumns line_of
line_columns e c = go e.content c.content_clear
  where
    go : (s : Shown) → ClearShown s → ColumnsOf (line_of (record { disk = e.disk; position = e.position; content = s })) e.disk e.position s
    go (shown_change kind number page slot width) h =
        columns_stand (decimal e.disk) (decimal e.position) (kind_name kind) (decimal number) (decimal page) (decimal slot) (decimal width)
        (record {
          disk_fits = digits_below 20 0 e.disk (omega arith) (omega arith);
          position_fits = digits_most 20 e.position;
          kind_fits = kind_fit kind (omega arith);
          transaction_fits = digits_most 20 number;
          page_fits = digits_below 20 2 page (omega arith) (omega arith);
          slot_fits_lem = digits_below 20 3 slot (omega arith) (omega arith);
          width_fits = digits_below 20 2 width (omega arith) (omega arith);
        })
    go (shown_close kind number) h =
        columns_stand (decimal e.disk) (decimal e.position) (kind_name kind) (decimal number) [] [] []
        (record {
          disk_fits = digits_below 20 0 e.disk (omega arith) (omega arith);
          position_fits = digits_most 20 e.position;
          kind_fits = kind_fit kind (omega arith);
          transaction_fits = digits_most 20 number;
          page_fits = omega arith;
          slot_fits_lem = omega arith;
          width_fits = omega arith;
        })

pub heading_columns : HeadingColumns
unfolding HeadingColumns heading
heading_columns =
    columns_stand _ _ _ _ _ _ _
    (record {
      disk_fits = omega arith;
      position_fits = omega arith;
      kind_fits = omega arith;
      transaction_fits = omega arith;
      page_fits = omega arith;
      slot_fits_lem = omega arith;
      width_fits = omega arith;
    })

pub heading_length : length heading ≡ line_bytes
unfolding HeadingColumns
heading_length = heading_columns.long

pub line_length_lem : (e : Listed) → Clear e → length (line_of e) ≡ line_bytes
unfolding LineColumns
line_length_lem e c = go e.content (line_columns e c)
  where
    go : (s : Shown) → ColumnsOf (line_of e) e.disk e.position s → length (line_of e) ≡ line_bytes
    go (shown_change kind number page slot width) h = h.long
    go (shown_close kind number) h = h.long

-- Equal fields say equal numbers.
same_number : (columns m n : ℕ) → m < 10 ^ 20 → n < 10 ^ 20 → padded columns (decimal m) ≡ padded columns (decimal n) → m ≡ n
same_number columns m n h l e = sym (said_padded columns m h) ∙ ap (said 0) e ∙ said_padded columns n l

same_kind : (k l : ℕ) → k < 4 → l < 4 → padded 12 (kind_name k) ≡ padded 12 (kind_name l) → k ≡ l
same_kind k l h m e = sym (kind_said_lem k h) ∙ ap kind_said e ∙ kind_said_lem l m

-- A line tells its record.
pub line_tells : LineTells
unfolding LineTells LineColumns
line_tells e f c h small low same =
    go e.content c.content_clear small f.content h.content_clear low (line_columns e c)
    (subst (λ (line : List ℕ). ColumnsOf line f.disk f.position f.content) (sym same) (line_columns f h))
  where
    go : (s : Shown) → ClearShown s → number_shown s < 2 ^ 64 → (u : Shown) → ClearShown u → number_shown u < 2 ^ 64
        → ColumnsOf (line_of e) e.disk e.position s → ColumnsOf (line_of e) f.disk f.position u
        → ◌≡◌ {A = Listed} (record { disk = e.disk; position = e.position; content = s }) (record { disk = f.disk; position = f.position; content = u })
    go (shown_change k n g s w) a i (shown_change k' n' g' s' w') b j x y =
        rw (
          same_number 1 e.disk f.disk (omega arith) (omega arith) (sym x.disk_at_lem ∙ y.disk_at_lem),
          same_number 20 e.position f.position (omega arith) (omega arith) (sym x.position_at ∙ y.position_at),
          same_kind k k' (omega arith) (omega arith) (sym x.kind_at ∙ y.kind_at),
          same_number 20 n n' (omega arith) (omega arith) (sym x.transaction_at ∙ y.transaction_at),
          same_number 3 g g' (omega arith) (omega arith) (sym x.page_at_lem ∙ y.page_at_lem),
          same_number 4 s s' (omega arith) (omega arith) (sym x.slot_at ∙ y.slot_at),
          same_number 3 w w' (omega arith) (omega arith) (sym x.width_at ∙ y.width_at),
        )
    go (shown_close k n) a i (shown_close k' n') b j x y =
        rw (
          same_number 1 e.disk f.disk (omega arith) (omega arith) (sym x.disk_at_lem ∙ y.disk_at_lem),
          same_number 20 e.position f.position (omega arith) (omega arith) (sym x.position_at ∙ y.position_at),
          same_kind k k' (omega arith) (omega arith) (sym x.kind_at ∙ y.kind_at),
          same_number 20 n n' (omega arith) (omega arith) (sym x.transaction_at ∙ y.transaction_at),
        )
    -- a change and a closing record have other kinds
    go (shown_change k n g s w) a i (shown_close k' n') b j x y =
        absurd (omega (arith, same_kind k k' (omega arith) (omega arith) (sym x.kind_at ∙ y.kind_at)))
    go (shown_close k n) a i (shown_change k' n' g' s' w') b j x y =
        absurd (omega (arith, same_kind k k' (omega arith) (omega arith) (sym x.kind_at ∙ y.kind_at)))

-- Two lines, byte by byte: an update at position 128, and an abort with the largest numbers that there are.
pub lines_computed :
    (line_of (record { disk = 3; position = 128; content = shown_change 0 7 12 5 32 })
    ≡ 51 ∷ replicate 20 32 ++ (49 ∷ 50 ∷ 56 ∷ replicate 9 32) ++ (117 ∷ 112 ∷ 100 ∷ 97 ∷ 116 ∷ 101 ∷ replicate 22 32)
    ++ (55 ∷ 32 ∷ 49 ∷ 50 ∷ 32 ∷ 32 ∷ 32 ∷ 53 ∷ 32 ∷ 51 ∷ 50 ∷ 10 ∷ []))
    × (line_of (record { disk = 7; position = 2 ^ 62 - 1; content = shown_close 3 (2 ^ 64 - 1) })
    -- 4611686018427387903 and 18446744073709551615
    ≡ 55 ∷ 32 ∷ 32 ∷ 32 ∷ 32
    ∷ 52 ∷ 54 ∷ 49 ∷ 49 ∷ 54 ∷ 56 ∷ 54 ∷ 48 ∷ 49 ∷ 56 ∷ 52 ∷ 50 ∷ 55 ∷ 51 ∷ 56 ∷ 55 ∷ 57 ∷ 48 ∷ 51
    ∷ replicate 10 32 ++ (97 ∷ 98 ∷ 111 ∷ 114 ∷ 116 ∷ 32 ∷ 32 ∷ 32
    ∷ 49 ∷ 56 ∷ 52 ∷ 52 ∷ 54 ∷ 55 ∷ 52 ∷ 52 ∷ 48 ∷ 55 ∷ 51 ∷ 55 ∷ 48 ∷ 57 ∷ 53 ∷ 53 ∷ 49 ∷ 54 ∷ 49 ∷ 53
    ∷ replicate 10 32 ++ (10 ∷ [])))
unfolding line_of in_columns kind_name last_digits padded
lines_computed = (refl, refl)
