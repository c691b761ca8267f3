-- What the record at a position comes to, by what was read there.
use mathlib.Core.Path.{◌≡◌, refl, sym, subst, ◌∙◌}
use mathlib.Core.List.{List}
use mathlib.Core.Bool.{Bool, cond}
use Prim.Native.Nat.{ℕ, ◌+◌}
use Rattle.model.specs.declared.Sizes.{Sizes}
use Rattle.model.specs.declared.Decoded.{Decoded}
use Rattle.model.specs.declared.Decoded.TheVariants.{Change, Close, Malformed}
use Rattle.model.specs.declared.Fate.{Fate}
use Rattle.model.specs.declared.Fate.TheVariants.{Closed, Unclosed, Unreadable}
use Rattle.model.specs.Sizes.{slot_base}
use Rattle.model.specs.Decode.{span, decode_at}
use Rattle.model.specs.Scan.{scan, fate_in}
use Rattle.model.specs.Image.{xor_at}
use Rattle.model.specs.Restart.{replays}
use Rattle.run.specs.Run.{TakesChange, Takes}

module _ (s : Sizes) (epoch tail : ℕ) (read : ℕ → ℕ) (p : ℕ) {r : Decoded} (is : r ≡ decode_at s read tail p) (before : List ℕ) where
  pub takes_malformed : r ≡ Malformed → Takes s epoch tail read p before before p (decode_at s read tail p)
  takes_malformed e = subst (Takes s epoch tail read p before before p) (sym e ∙ is) (refl, refl)

  pub takes_close : {kind number to : ℕ} → r ≡ Close kind number to → Takes s epoch tail read p before before to (decode_at s read tail p)
  takes_close {to = to} e = subst (Takes s epoch tail read p before before to) (sym e ∙ is) (refl, refl)

  module _ {kind page slot number copy width to : ℕ} (e : r ≡ Change kind page slot number copy width to) {f : Fate}
      (fate : f ≡ fate_in number (scan s read tail to)) where
    abbrev xored : List ℕ
    xored = xor_at (slot_base s page slot) (span read (p + 3) width) before

    by_fate : (after : List ℕ) (next : ℕ) → TakesChange epoch copy p to xored before after next f
        → Takes s epoch tail read p before after next (decode_at s read tail p)
    by_fate after next t =
        subst (Takes s epoch tail read p before after next) (sym e ∙ is) (subst (TakesChange epoch copy p to xored before after next) fate t)

    pub takes_unreadable : {q : ℕ} → f ≡ Unreadable q → Takes s epoch tail read p before before p (decode_at s read tail p)
    takes_unreadable u = by_fate before p (subst (TakesChange epoch copy p to xored before before p) (sym u) (refl, refl))

    pub takes_change : {b : Bool} {after : List ℕ} → ((q : ℕ) → f ≡ Unreadable q → ⊥) → b ≡ replays epoch f copy
        → after ≡ cond b xored before → Takes s epoch tail read p before after to (decode_at s read tail p)
    takes_change {after = after} readable chosen did = by_fate after to (go f readable (rw chosen at did))
      where
        go : (g : Fate) → ((q : ℕ) → g ≡ Unreadable q → ⊥) → after ≡ cond (replays epoch g copy) xored before
            → TakesChange epoch copy p to xored before after to g
        go (Unreadable q) u d = absurd (u q refl)
        go Closed u d = (refl, d)
        go Unclosed u d = (refl, d)
