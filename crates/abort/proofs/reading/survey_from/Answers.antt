-- `abort::reading::survey_from` meets its contract: the survey is lent the ring and the buffered words. Assumes nothing.
use mathlib.Core.Path.{refl}
use native.Mathlib.Omega.{arith}
use Rattle.model.specs.Sizes.{ring_of}
use Rattle.model.proofs.Growth.{tail_end}
use Rattle.abort.specs.Undo.{only_log}
use Rattle.abort.proofs.Disks.{extent_asked, buffer_asked, bounds, lent_lies, lent_tail, lent_to, lent_readable}
use Rattle.abort.proofs.Malformed.{found_bad, found_from, lent_parts}
use Rattle.abort.proofs.reading.survey_from.Goals as goal

pub extent_at-extent-requires : goal.extent_at-extent-requires
extent_at-extent-requires c = extent_asked c.requires.0

pub buffered-buffer-requires : goal.buffered-buffer-requires
buffered-buffer-requires c = buffer_asked c.requires.0

pub survey_log-found-requires : goal.survey_log-found-requires
unfolding ring_of
survey_log-found-requires c =
    let pre = c.requires in
    let e = c.buffered-buffer.ensures in
    let x = c.extent_at-extent.ensures in
    let to = lent_to pre.0 e _ x in
    record {
      readable = (lent_readable pre.0 e _ x (omega arith), lent_lies pre.0 e _ x, pre.0.sizes);
      ring_bound = (
        omega (arith, (lent_lies pre.0 e _ x).same_ring, (bounds pre.0).ring_max),
        omega (arith, lent_tail pre.0 e _ x, to, tail_end (only_log c.args.disk c.args.tip) c.args.disk),
        omega (arith, to, pre.1),
        refl,
      );
    }

pub returns-in-Some : goal.returns-in-Some
returns-in-Some c =
    found_bad _ _ _ _ _ _ _ (lent_parts c.requires.0 c.buffered-buffer.ensures _ _ c.extent_at-extent.ensures c.survey_log-found.ensures) c.in-Some.is

pub returns : goal.returns
returns c =
    found_from _ _ _ _ _ _ _ (lent_parts c.requires.0 c.buffered-buffer.ensures _ _ c.extent_at-extent.ensures c.survey_log-found.ensures) c.in_default.is
