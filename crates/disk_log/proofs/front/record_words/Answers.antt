-- `disk_log::front::record_words` meets its contract, by the tests of the first two words.
use mathlib.Core.Path.{sym, ◌∙◌}
use native.Mathlib.Omega.{arith}
use Rattle.model.proofs.RecordSizes.{has_size}
use Rattle.disk_log.proofs.Fronts.{measured_zero, measured_none, measured_outside, measured_change, measured_close, measured_set}
use Rattle.disk_log.proofs.front.record_words.Goals as goal

pub returns-then-front-eq0 : goal.returns-then-front-eq0
returns-then-front-eq0 c = record { size = tt; words = λ s e stop p copy. measured_zero s stop p _ _ copy c.if-front-eq0.true }

pub returns-in_default : goal.returns-in_default
returns-in_default c =
    record { size = tt; words = λ s e stop p copy. measured_none s stop p _ _ copy (sym c.record_size.ensures ∙ c.in_default.is) }

pub returns-then-is_outside : goal.returns-then-is_outside
returns-then-is_outside c =
    record {
      size = tt;
      words = λ s e stop p copy. measured_outside s stop p _ _ copy c.if-kind-lt2.true (sym (c.is_outside.ensures s e) ∙ c.if-is_outside.true);
    }

pub returns-then-kind-lt2 : goal.returns-then-kind-lt2
returns-then-kind-lt2 c =
    let is = sym c.record_size.ensures ∙ c.in-Some.is in
    let sized = has_size _ _ _ is in
    record {
      size = (omega (arith, sized.least), omega (arith, sized.most));
      words = λ s e stop p copy. measured_change s stop p _ _ copy c.if-front-eq0.false _ is c.if-kind-lt2.true (sym (c.is_outside.ensures s e) ∙ c.if-is_outside.false);
    }

pub returns-then-w-eq0 : goal.returns-then-w-eq0
returns-then-w-eq0 c =
    let is = sym c.record_size.ensures ∙ c.in-Some.is in
    let sized = has_size _ _ _ is in
    record {
      size = (omega (arith, sized.least), omega (arith, sized.most));
      words = λ s e stop p copy. measured_close s stop p _ _ copy c.if-front-eq0.false _ is c.if-kind-lt2.false c.if-w-eq0.true;
    }

pub returns-else-w-eq0 : goal.returns-else-w-eq0
returns-else-w-eq0 c = record { size = tt; words = λ s e stop p copy. measured_set s stop p _ _ copy c.if-kind-lt2.false c.if-w-eq0.false }
