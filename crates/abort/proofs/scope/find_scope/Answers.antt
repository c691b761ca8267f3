-- `abort::scope::find_scope` meets its contract: by cases on what is found. Assumes nothing.
use mathlib.Core.Path.{refl}
use native.Mathlib.Omega.{arith}
use Rattle.frame.proofs.Refusals.{passed_on}
use Rattle.abort.proofs.Scopes.{read_refused, entry_placed, read_far, read_unsized, read_found}
use Rattle.abort.proofs.scope.find_scope.Goals as goal

pub returns-in_err-entry : goal.returns-in_err-entry
returns-in_err-entry c =
    rw (passed_on _ _ c.from_residual.ensures.1) (read_refused _ _ c.requires.0 _ (c.in_err-entry.ensures _ c.requires.0 refl refl))

pub overflow_add-first : goal.overflow_add-first
overflow_add-first c =
    let p = entry_placed _ _ c.requires.0 _ (c.in_ok-entry.ensures _ c.requires.0 refl refl) in
    omega (arith, p.0)

pub offset_bounds-work-entry : goal.offset_bounds-work-entry
offset_bounds-work-entry c =
    let p = entry_placed _ _ c.requires.0 _ (c.in_ok-entry.ensures _ c.requires.0 refl refl) in
    omega (arith, p.0)

pub bounds-work-entry : goal.bounds-work-entry
bounds-work-entry c =
    let p = entry_placed _ _ c.requires.0 _ (c.in_ok-entry.ensures _ c.requires.0 refl refl) in
    omega (arith, p.0, c.requires.2)

pub overflow_add-entry : goal.overflow_add-entry
overflow_add-entry c =
    let p = entry_placed _ _ c.requires.0 _ (c.in_ok-entry.ensures _ c.requires.0 refl refl) in
    omega (arith, p.1.end_small)

pub log_fits-requires : goal.log_fits-requires
log_fits-requires c =
    let p = entry_placed _ _ c.requires.0 _ (c.in_ok-entry.ensures _ c.requires.0 refl refl) in
    (omega (arith, p.1.end_small), omega (arith, p.1.own_part, p.1.end_small))

pub returns-then-not-log_fits : goal.returns-then-not-log_fits
returns-then-not-log_fits c =
    read_far _ _ c.requires.0 _ (c.in_ok-entry.ensures _ c.requires.0 refl refl) c.log_fits.ensures c.if-not-log_fits.true

pub known_sizes-requires : goal.known_sizes-requires
known_sizes-requires c = omega (arith, c.requires.2)

pub returns-in_default : goal.returns-in_default
returns-in_default c =
    read_unsized _ _ c.requires.0 _ (c.in_ok-entry.ensures _ c.requires.0 refl refl) c.log_fits.ensures c.if-not-log_fits.false
    c.known_sizes.ensures c.in_default.is

pub scope_at-scope-requires : goal.scope_at-scope-requires
scope_at-scope-requires c =
    let p = entry_placed _ _ c.requires.0 _ (c.in_ok-entry.ensures _ c.requires.0 refl refl) in
    (p.1.own_min, omega (arith, p.1.end_small))

pub returns : goal.returns
returns c =
    read_found _ _ c.requires.0 _ (c.in_ok-entry.ensures _ c.requires.0 refl refl) c.log_fits.ensures c.if-not-log_fits.false
    c.known_sizes.ensures c.in-Some.is c.scope_at-scope.ensures
