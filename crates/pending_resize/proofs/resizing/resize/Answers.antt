use mathlib.Core.Path.{◌≡◌}
use Rattle.std.proofs.Common.{Err}
use borrow.Author.Rules.{rules}
use Rattle.pending_resize.specs.declared.resizing.ResizeRefusal.TheVariants as Refusal
use Rattle.pending_resize.proofs.Answers.{resize_refused, resize_done}
use Rattle.pending_resize.proofs.resizing.resize.Goals as goal

pub returns-in_err-validate_config : goal.returns-in_err-validate_config
returns-in_err-validate_config c =
    let err : c.from_residual-in_err-validate_config.result ≡ Err (Refusal.Limits c.in_err-validate_config.field-0.0) = search rules in
    rw err (resize_refused _ _ _ c.in_ok-header.ensures c.in_err-validate_config.ensures)

pub returns : goal.returns
returns c = resize_done _ _ _ c.in_ok-header.ensures c.in_ok-validate_config.ensures c.resize_cache.ensures
