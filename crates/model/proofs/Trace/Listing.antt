-- The promises on the log on paper for traces of the code's own calls: see specs/ListingPromise.antt.
use mathlib.Core.Path.{◌≡◌, sym, ap, subst, ◌∙◌}
use Prim.Native.Nat.{ℕ, ◌*◌, ◌<◌}
use Rattle.model.specs.declared.Stage.TheVariants.{Shut}
use Rattle.model.specs.declared.Answer.{Answer}
use Rattle.model.specs.Anchor.{sizes_on}
use Rattle.model.specs.Refusal.{Result, number_of, first_of}
use Rattle.model.specs.Listing.{line_bytes}
use Rattle.model.specs.Call.{Call, look, list_line, list_lines, result_of}
use Rattle.model.specs.View.{core_of, body_of}
use Rattle.model.specs.Reference.{outcome_of}
use Rattle.model.specs.Machine.{Machine, result}
use Rattle.model.specs.Trace.{MachineInCode, view_of, Observed, machine_before, KeepsContract, view_run, follow_in_code, formatted_in_code}
use Rattle.model.specs.ListingPromise.{ShowsDisk, DiskByDisk, AnswersLine, OneListing, OneListingOfLines, ListingShows, OneListingInCode, OneListingOfLinesInCode, ListingShowsInCode}
use Rattle.model.proofs.ListingShows.{one_listing, one_listing_of_lines, listing_shows}
use Rattle.model.proofs.Trace.Events.{as_defined, each_trace}
use Rattle.model.proofs.Trace.Promises.{gave_number}

-- What a listing of the code answered, by the definition.
answered : (o : Observed) (k : Call) → KeepsContract o → o.call ≡ k → o.reply.answer ≡ (result_of k (view_of (machine_before o)).core (view_of (machine_before o)).world).answer
unfolding result
answered o k ok is = ap (λ (r : Result). r.answer) (as_defined o ok) ∙ ap (λ (k : Call). (result (view_of (machine_before o)) k).answer) is

-- There is one listing of the same devices.
pub one_listing_in_code : OneListingInCode
unfolding OneListingInCode OneListing view_of core_of body_of
one_listing_in_code o p number before other bytes others ok fine is it shut closed anchor logs same gives leaves =
    let one = answered o _ ok is in
    let both = one_listing (view_of (machine_before o)).core (view_of (machine_before p)).core (view_of (machine_before o)).world (view_of (machine_before p)).world
    number before other shut closed anchor logs same in (
      one ∙ both.0 ∙ sym (answered p _ fine it),
      λ took. gives ∙ both.1 (sym (ap outcome_of one) ∙ took) ∙ sym leaves,
    )

pub one_listing_of_lines_in_code : OneListingOfLinesInCode
unfolding OneListingOfLinesInCode OneListingOfLines view_of core_of body_of
one_listing_of_lines_in_code o p first before other bytes others ok fine is it shut closed anchor logs same gives leaves =
    let one = answered o _ ok is in
    let both = one_listing_of_lines (view_of (machine_before o)).core (view_of (machine_before p)).core (view_of (machine_before o)).world (view_of (machine_before p)).world
    first before other shut closed anchor logs same in (
      one ∙ both.0 ∙ sym (answered p _ fine it),
      λ took i l. rw (gives, leaves) (both.1 (sym (ap outcome_of one) ∙ took) i (subst (λ (a : Answer). i < first_of a) one l)),
    )

-- The listing of a shut store.
pub listing_shows_in_code : ListingShowsInCode
unfolding ListingShowsInCode ListingShows view_run view_of core_of body_of
listing_shows_in_code o s f events l shut =
    let x : MachineInCode = (follow_in_code events (formatted_in_code o s)).machine in
    let shown = each_trace (λ t y.
    let n : Machine = y.machine in
    n.core.stage ≡ Shut
    → ((disk : ℕ) → disk < (sizes_on n.world.anchor).disks → ShowsDisk t n.world disk)
    × DiskByDisk n.world
    × ((number : ℕ) → AnswersLine n.world number (number_of (result n (look (list_line number line_bytes))).answer))
    × ((first lines : ℕ) → number_of (result n (look (list_lines first (line_bytes * lines)))).answer
    ≡ number_of (result n (look (list_line first line_bytes))).answer))
    listing_shows o s f events l shut in (
      shown.0,
      shown.1,
      λ p number is on. rw (gave_number x p (look (list_line number line_bytes)) is on) (shown.2 number),
      λ p q first lines is it on at.
          gave_number x p (look (list_lines first (line_bytes * lines))) is on ∙ shown.3 first lines ∙ sym (gave_number x q (look (list_line first line_bytes)) it at),
    )
