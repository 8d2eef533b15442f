-- The bytes that were read stand behind those that were unused before; where none could be read, those alone stand at the start.
use Rattle.std.proofs.Common.{◌≡◌, ℕ, ◌+◌, ◌≤◌, List, length, take, drop, ◌-◌, arith, length-drop, zero-add, subst}
use Rattle.std.proofs.Math.Seq.{paste}
use Rattle.std.proofs.lemmas.List.Edits.{take-paste}
use Rattle.std.proofs.lemmas.Result.{err_from_is_err_and}
use Rattle.console.specs.InputLaws.{unused-read, unused-kept}
use Rattle.console.proofs.input.more.Goals as goal

copied : (before moved : List ℕ) (from k : ℕ) → from + k ≤ length before → moved ≡ paste before 0 (drop from before) k → take k moved ≡ take k (drop from before)
copied before moved from k h e =
    rw e (subst (λ n. take n (paste before 0 (drop from before) k) ≡ take k (drop from before)) (zero-add k) (take-paste before 0 (drop from before) k (omega arith) (simp length-drop (omega arith))))

pub returns-clause-bytes : goal.returns-clause-bytes
returns-clause-bytes g c =
    let i = c.args.input in
    let n = c.in_ok-n.n in
    let part = c.read.new.buf in
    let few = c.in_ok-n.ensures.bound in (
      take n part,
      c.in_ok-n.ensures.bytes.0,
      unused-read c.args.buffer.now c.copy_within.new.self part _ i.from (i.end - i.from) n _ (omega arith) (copied c.args.buffer.now c.copy_within.new.self i.from (i.end - i.from) (omega arith) c.copy_within.ensures.after) (omega (arith, few)) (omega arith),
    )

pub returns-in_err-n-clause-err_unused : goal.returns-in_err-n-clause-err_unused
returns-in_err-n-clause-err_unused g c =
    let i = c.args.input in
    let p = err_from_is_err_and c.from_residual.result c.from_residual.ensures.1 in
    rw p.1 (unused-kept c.args.buffer.now c.copy_within.new.self c.read.new.buf _ i.from (i.end - i.from) (omega arith) (copied c.args.buffer.now c.copy_within.new.self i.from (i.end - i.from) (omega arith) c.copy_within.ensures.after))
