-- The scan of a log, a record at a time; it depends on the words before its stop and on no others.
use Prim.Native.Nat.{ℕ, zero, suc, ◌+◌, ◌-◌, ◌≤◌, ◌<◌}
use mathlib.Core.Path.{◌≡◌, refl, sym, ap, ◌∙◌}
use native.Mathlib.Omega.{arith}
use native.Mathlib.Decide.{dec_lt}
use borrow.Author.Tests.{lt-ltb, le-ltb}
use Rattle.model.specs.declared.Sizes.{Sizes}
use Rattle.model.specs.declared.Decoded.{Decoded}
use Rattle.model.specs.declared.Decoded.TheVariants.{Change, Close, Malformed}
use Rattle.model.specs.Record.{change, close}
use Rattle.model.specs.Decode.{span, decode_at}
use Rattle.model.specs.Scan.{Scan, end, bad, item, scanned, scan_at_most, scan}
use Rattle.model.proofs.Decode.{Found, found, decode_cong}
use Rattle.model.proofs.Reader.{span_cong}

-- the rest of a scan is asked from further on only
scanned_same : (s : Sizes) (read : ℕ → ℕ) (stop p : ℕ) (d : Decoded) → Found s stop p d → (f g : ℕ → Scan)
    → ((q : ℕ) → p < q → f q ≡ g q) → scanned read p d f ≡ scanned read p d g
scanned_same s read stop p (Change kind page slot number copy width next) h f g e = rw (e next (omega arith))
scanned_same s read stop p (Close kind number next) h f g e = rw (e next (omega arith))
scanned_same s read stop p Malformed h f g e = refl

module _ (s : Sizes) (read : ℕ → ℕ) (stop : ℕ) where
  at_most_end : (n p : ℕ) → stop ≤ p → scan_at_most s read stop n p ≡ end
  unfolding scan_at_most
  at_most_end zero p h = refl
  at_most_end (suc n) p h = simp (le-ltb p stop h)

  at_most_step : (n p : ℕ) → p < stop
      → scan_at_most s read stop (suc n) p ≡ scanned read p (decode_at s read stop p) (scan_at_most s read stop n)
  unfolding scan_at_most
  at_most_step n p h = simp (lt-ltb p stop h)

  -- as many records as there are words are enough
  at_most_enough : (n m p : ℕ) → stop - p ≤ n → stop - p ≤ m → scan_at_most s read stop n p ≡ scan_at_most s read stop m p
  at_most_enough zero m p h l = at_most_end zero p (omega arith) ∙ sym (at_most_end m p (omega arith))
  at_most_enough (suc n) zero p h l = at_most_end (suc n) p (omega arith) ∙ sym (at_most_end zero p (omega arith))
  at_most_enough (suc n) (suc m) p h l =
      go (λ q less k. at_most_enough n m q (omega arith) (omega arith)) (dec_lt p stop)
    where
      go : ((q : ℕ) → p < q → p < stop → scan_at_most s read stop n q ≡ scan_at_most s read stop m q) → Dec (p < stop)
          → scan_at_most s read stop (suc n) p ≡ scan_at_most s read stop (suc m) p
      go ih (yes k) =
          at_most_step n p k
          ∙ scanned_same s read stop p (decode_at s read stop p) (found s read stop p) _ _ (λ q less. ih q less k)
          ∙ sym (at_most_step m p k)
      go ih (no k) = at_most_end (suc n) p (omega arith) ∙ sym (at_most_end (suc m) p (omega arith))

  pub scan_end : (p : ℕ) → stop ≤ p → scan s read stop p ≡ end
  unfolding scan
  scan_end p h = at_most_end (stop - p) p h

  pub scan_step : (p : ℕ) → p < stop → scan s read stop p ≡ scanned read p (decode_at s read stop p) (scan s read stop)
  unfolding scan
  scan_step p h =
      at_most_enough (stop - p) (suc (stop - p)) p (omega arith) (omega arith)
      ∙ at_most_step (stop - p) p h
      ∙ scanned_same s read stop p (decode_at s read stop p) (found s read stop p) _ _
      (λ q l. at_most_enough (stop - p) (stop - q) q (omega arith) (omega arith))

  -- the scan by what is decoded
  pub scan_change : {p kind page slot number copy width next : ℕ} → p < stop
      → decode_at s read stop p ≡ Change kind page slot number copy width next
      → scan s read stop p ≡ item p (change kind page slot number copy (span read (p + 3) width)) (scan s read stop next)
  scan_change {p} h e = scan_step p h ∙ ap (λ (d : Decoded). scanned read p d (scan s read stop)) e

  pub scan_close : {p kind number next : ℕ} → p < stop → decode_at s read stop p ≡ Close kind number next
      → scan s read stop p ≡ item p (close kind number) (scan s read stop next)
  scan_close {p} h e = scan_step p h ∙ ap (λ (d : Decoded). scanned read p d (scan s read stop)) e

  pub scan_bad : {p : ℕ} → p < stop → decode_at s read stop p ≡ Malformed → scan s read stop p ≡ bad p
  scan_bad {p} h e = scan_step p h ∙ ap (λ (d : Decoded). scanned read p d (scan s read stop)) e

-- two readers that agree from p up to the stop give the same scan from p
module _ (s : Sizes) (read other : ℕ → ℕ) (stop : ℕ) where
  scanned_cong : (p : ℕ) (d : Decoded) → Found s stop p d → ((q : ℕ) → p ≤ q → q < stop → read q ≡ other q)
      → (f g : ℕ → Scan) → ((q : ℕ) → p < q → f q ≡ g q) → scanned read p d f ≡ scanned other p d g
  scanned_cong p (Change kind page slot number copy width next) h same f g e =
      let diff : span read (p + 3) width ≡ span other (p + 3) width =
      span_cong read other (p + 3) width (λ q l m. same q (omega arith) (omega arith)) in
      rw (diff, e next (omega arith))
  scanned_cong p (Close kind number next) h same f g e = rw (e next (omega arith))
  scanned_cong p Malformed h same f g e = refl

  scan_cong_within : (n p : ℕ) → stop - p ≤ n → ((q : ℕ) → p ≤ q → q < stop → read q ≡ other q)
      → scan s read stop p ≡ scan s other stop p
  scan_cong_within zero p h same = scan_end s read stop p (omega arith) ∙ sym (scan_end s other stop p (omega arith))
  scan_cong_within (suc n) p h same =
      go (λ q less k. scan_cong_within n q (omega arith) (λ r l m. same r (omega arith) m)) (dec_lt p stop)
    where
      go : ((q : ℕ) → p < q → p < stop → scan s read stop q ≡ scan s other stop q) → Dec (p < stop)
          → scan s read stop p ≡ scan s other stop p
      go ih (yes k) =
          scan_step s read stop p k
          ∙ scanned_cong p (decode_at s read stop p) (found s read stop p) same _ _ (λ q less. ih q less k)
          ∙ ap (λ (d : Decoded). scanned other p d (scan s other stop)) (decode_cong s read other stop p k same)
          ∙ sym (scan_step s other stop p k)
      go ih (no k) = scan_end s read stop p (omega arith) ∙ sym (scan_end s other stop p (omega arith))

  pub scan_cong : (p : ℕ) → ((q : ℕ) → p ≤ q → q < stop → read q ≡ other q) → scan s read stop p ≡ scan s other stop p
  scan_cong p same = scan_cong_within (stop - p) p (omega arith) same
