-- A transaction's updates by their positions: each stands at its position and is read from there.
use mathlib.Core.Path.{◌≡◌, refl, sym, ap, ◌∙◌}
use mathlib.Core.List.Memᴰ
use mathlib.Core.List.{List, [], ◌∷◌, ◌++◌, append_assoc, append-nil}
use mathlib.Core.Bool.{Bool, true, false, cond, ◌&&◌}
use Prim.Native.Nat.{ℕ, zero, suc, ◌+◌, ◌*◌, ◌-◌, ◌≤◌, ◌<◌}
use native.Mathlib.Omega.{arith}
use native.Mathlib.Decide.{dec_lt}
use lib.Dec.{eqb}
use lib.ListN.{length}
use Rattle.model.specs.declared.Sizes.{Sizes}
use Rattle.model.specs.declared.Decoded.{Decoded}
use Rattle.model.specs.declared.Decoded.TheVariants.{Change, Close, Malformed}
use Rattle.model.specs.Record.{update_kind}
use Rattle.model.specs.Decode.{page_field, slot_field, width_field, span, decode_at}
use Rattle.model.specs.Scan.{Scan, scan, Update, updates_in, update_words}
use Rattle.model.proofs.Members.{Every, every_nil, every_cons, every_append}
use Rattle.model.proofs.Decode.{found_change, found_close, decoded_all}
use Rattle.model.proofs.Reader.{span_cong}
use Rattle.model.proofs.Restart.Gain.{length_span}
use Rattle.model.proofs.Scan.{scan_end, scan_change, scan_close, scan_bad}
use Rattle.model.proofs.Updates.{update_words_first, update_words_append}
use Rattle.disk_log.specs.Reading.{positions_in}
use Rattle.abort.specs.Undo.{update_read}
use Rattle.abort.specs.Groups.{last_first, Standing}

-- what stands at positions, in two parts; for two readers; and of what kind
module _ (at : ℕ → Update) where
  pub last_first_append : (ps qs : List ℕ) → last_first at (ps ++ qs) ≡ last_first at qs ++ last_first at ps
  unfolding last_first
  last_first_append [] qs = sym (append-nil (last_first at qs))
  last_first_append (p ∷ ps) qs =
      ap (λ (us : List Update). us ++ at p ∷ []) (last_first_append ps qs) ∙ append_assoc (last_first at qs) (last_first at ps) (at p ∷ [])

  pub last_first_same : (other : ℕ → Update) (ps : List ℕ) → Every (λ p. at p ≡ other p) ps → last_first at ps ≡ last_first other ps
  unfolding last_first
  last_first_same other [] h = refl
  last_first_same other (p ∷ ps) h =
      rw (last_first_same other ps (λ q m. h q (Memᴰ.tail m)), h p (Memᴰ.head refl)) refl

  pub last_first_every : (P : Update → Type 0) (ps : List ℕ) → Every (λ p. P (at p)) ps → Every P (last_first at ps)
  unfolding last_first
  last_first_every P [] h = every_nil P
  last_first_every P (p ∷ ps) h =
      every_append P (last_first at ps) (at p ∷ []) (last_first_every P ps (λ q m. h q (Memᴰ.tail m)))
      (every_cons P (at p) [] (h p (Memᴰ.head refl)) (every_nil P))

pub length_read : (read : ℕ → ℕ) (p : ℕ) → length (update_read read p).diff ≡ width_field (read p)
unfolding update_read
length_read read p = length_span read (p + 3) (width_field (read p))

-- each has four words or more
pub four_each : (read : ℕ → ℕ) (ps : List ℕ) → Every (λ p. 1 ≤ width_field (read p)) ps → 4 * length ps ≤ update_words (last_first (update_read read) ps)
unfolding last_first
four_each read [] h = omega arith
four_each read (p ∷ ps) h =
    omega (
      arith,
      update_words_append (last_first (update_read read) ps) (update_read read p ∷ []),
      update_words_first (update_read read p) [],
      length_read read p,
      h p (Memᴰ.head refl),
      four_each read ps (λ q m. h q (Memᴰ.tail m)),
    )

-- readers that agree on a record give the same update
pub read_same : (read other : ℕ → ℕ) (p stop : ℕ) → p + 3 + width_field (read p) ≤ stop → ((q : ℕ) → p ≤ q → q < stop → read q ≡ other q)
    → update_read other p ≡ update_read read p
unfolding update_read
read_same read other p stop inside same =
    let word : read p ≡ other p = same p (omega arith) (omega arith) in
    let diff : span read (p + 3) (width_field (read p)) ≡ span other (p + 3) (width_field (read p)) =
    span_cong read other (p + 3) (width_field (read p)) (λ q h k. same q (omega arith) (omega arith)) in
    rw (← word, diff) refl

-- the fields of a change are those of its first word
abbrev Fields : ℕ → Decoded → Type 0
Fields w (Change kind page slot number copy width next) = (page ≡ page_field w) × (slot ≡ slot_field w) × (width ≡ width_field w)
Fields w (Close kind number next) = Unit {0}
Fields w Malformed = Unit {0}

fields : (s : Sizes) (read : ℕ → ℕ) (stop p : ℕ) → Fields (read p) (decode_at s read stop p)
unfolding decode_at
fields s read stop p =
    decoded_all (λ (d : Decoded). Fields (read p) d) s stop p (read p) (read (p + 1)) (read (p + 2)) tt (λ k f m. (refl, refl, refl)) (λ k l f z. tt)

module _ (s : Sizes) (read : ℕ → ℕ) (stop t : ℕ) where
  abbrev on : ℕ → List ℕ
  on p = positions_in t (scan s read stop p)

  -- the updates from p on are those that stand at their positions
  pub record Listed (p : ℕ) : Type 0 where
    pub updates : updates_in t (scan s read stop p) ≡ last_first (update_read read) (on p)
    pub stand : Every (λ q. (p ≤ q) × Standing s read stop q) (on p)

  none : (p : ℕ) → updates_in t (scan s read stop p) ≡ [] → on p ≡ [] → Listed p
  unfolding last_first
  none p a b = record { updates = rw (a, b) refl; stand = rw b (every_nil _) }

  past : (p next : ℕ) → p ≤ next → updates_in t (scan s read stop p) ≡ updates_in t (scan s read stop next) → on p ≡ on next → Listed next → Listed p
  past p next h a b ih = record { updates = rw (a, b) ih.updates; stand = rw b (λ q m. (omega (arith, (ih.stand q m).0), (ih.stand q m).1)) }

  one : (p next : ℕ) → p < next → Standing s read stop p
      → updates_in t (scan s read stop p) ≡ updates_in t (scan s read stop next) ++ update_read read p ∷ [] → on p ≡ p ∷ on next → Listed next → Listed p
  unfolding last_first
  one p next h here a b ih =
      record {
        updates = rw (a, b) (ap (λ (us : List Update). us ++ update_read read p ∷ []) ih.updates);
        stand = rw b (every_cons (λ (q : ℕ). (p ≤ q) × Standing s read stop q) p (on next) (omega arith, here) (λ q m. (omega (arith, (ih.stand q m).0), (ih.stand q m).1)));
      }

  step : (p : ℕ) → p < stop → ((next : ℕ) → p < next → Listed next) → (d : Decoded) → decode_at s read stop p ≡ d → Fields (read p) d → Listed p
  unfolding updates_in positions_in update_read
  step p h ih (Change kind page slot number copy width next) e f = go (eqb kind update_kind && eqb number t) refl
    where
      at : Scan
      at = scan s read stop next

      u : Update
      u = record { position = p; page = page; slot = slot; diff = span read (p + 3) width }

      is : updates_in t (scan s read stop p) ≡ updates_in t at ++ cond (eqb kind update_kind && eqb number t) (u ∷ []) []
      is = ap (updates_in t) (scan_change s read stop h e)

      places : on p ≡ cond (eqb kind update_kind && eqb number t) (p ∷ on next) (on next)
      places = ap (positions_in t) (scan_change s read stop h e)

      go : (b : Bool) → eqb kind update_kind && eqb number t ≡ b → Listed p
      go true x =
          let c = found_change s read stop e in
          one p next (omega arith)
          (record {
            slotted = rw (← f.0, ← f.1, ← f.2) (record { page_in = c.page_in; slot_in = c.slot_in; width_is = c.width_eq });
            inside = rw (← f.2) (omega (arith, c.next_eq, c.next_le));
          })
          (rw x at (rw (f.0, f.1, f.2) at is)) (rw x at places) (ih next (omega (arith, c.next_eq)))
      go false x =
          let c = found_change s read stop e in
          past p next (omega (arith, c.next_eq)) ((rw x at is) ∙ append-nil (updates_in t at)) (rw x at places) (ih next (omega (arith, c.next_eq)))
  step p h ih (Close kind number next) e f =
      let c = found_close s read stop e in
      past p next (omega (arith, c.next_eq)) (ap (updates_in t) (scan_close s read stop h e)) (ap (positions_in t) (scan_close s read stop h e))
      (ih next (omega (arith, c.next_eq)))
  step p h ih Malformed e f = none p (ap (updates_in t) (scan_bad s read stop h e)) (ap (positions_in t) (scan_bad s read stop h e))

  listed_within : (n p : ℕ) → stop - p ≤ n → Listed p
  unfolding updates_in positions_in
  listed_within zero p h =
      none p (ap (updates_in t) (scan_end s read stop p (omega arith))) (ap (positions_in t) (scan_end s read stop p (omega arith)))
  listed_within (suc n) p h = go (λ q l k. listed_within n q (omega arith)) (dec_lt p stop)
    where
      go : ((q : ℕ) → p < q → p < stop → Listed q) → Dec (p < stop) → Listed p
      go ih (yes k) = step p k (λ next l. ih next l k) (decode_at s read stop p) refl (fields s read stop p)
      go ih (no k) =
          none p (ap (updates_in t) (scan_end s read stop p (omega arith))) (ap (positions_in t) (scan_end s read stop p (omega arith)))

  pub listed : (p : ℕ) → Listed p
  listed p = listed_within (stop - p) p (omega arith)
