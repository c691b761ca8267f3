-- Row 7 of a record, by what is decoded and by the search ahead.
use Rattle.std.specs.Prelude.{None, Option}
use mathlib.Core.Path.{◌≡◌, sym, ap, ◌∙◌}
use Prim.Native.Nat.{ℕ}
use Rattle.model.specs.declared.Sizes.{Sizes}
use Rattle.model.specs.declared.Decoded.{Decoded}
use Rattle.model.specs.declared.Decoded.TheVariants.{Change, Close, Malformed}
use Rattle.model.specs.declared.Fate.{Fate}
use Rattle.model.specs.declared.BadRecord.{BadRecord}
use Rattle.model.specs.Record.{bad_record}
use Rattle.model.specs.Decode.{decode_at}
use Rattle.model.specs.Scan.{scan, fate_in}
use Rattle.model.specs.Restart.{fate_fault}
use Rattle.run.specs.Run.{fault_at}

module _ (s : Sizes) (read : ℕ → ℕ) (tail disk p : ℕ) {r : Decoded} (is : r ≡ decode_at s read tail p) where
  pub fault_ahead : {kind page slot number copy width next : ℕ} {f : Fate} {x : Option BadRecord} → r ≡ Change kind page slot number copy width next
      → f ≡ fate_in number (scan s read tail next) → fate_fault disk f ≡ x → x ≡ fault_at s read tail disk p (decode_at s read tail p)
  fault_ahead e fate told = sym (ap (fault_at s read tail disk p) (sym is ∙ e) ∙ ap (fate_fault disk) (sym fate) ∙ told)

  pub fault_close : {kind number next : ℕ} → r ≡ Close kind number next → None ≡ fault_at s read tail disk p (decode_at s read tail p)
  fault_close e = sym (ap (fault_at s read tail disk p) (sym is ∙ e))

  pub fault_malformed : r ≡ Malformed → bad_record disk p ≡ fault_at s read tail disk p (decode_at s read tail p)
  fault_malformed e = sym (ap (fault_at s read tail disk p) (sym is ∙ e))
