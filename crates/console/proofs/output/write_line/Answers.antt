-- What is written is the first n bytes and the newline that was put behind them; a start of it that lacks the newline is a start of the buffer as it was.
use Rattle.std.proofs.Common.{◌≡◌, ℕ, ◌+◌, ◌≤◌, ◌<◌, Bool, true, false, List, [], ◌∷◌, length, take, refl, ◌∙◌, arith, length-append, length-take-le, take-take}
use Rattle.std.proofs.lemmas.Bool.{leb-true}
use Rattle.std.proofs.lemmas.List.{take-append-le, length-take}
use Rattle.std.proofs.lemmas.Result.{on_err_weaker}
use Rattle.text.specs.Buffer.{Put, room}
use Rattle.text.specs.NumeralLaws.{put-behind}
use Rattle.console.proofs.output.write_line.Goals as goal

module _ (before after : List ℕ) (n r sent : ℕ) (p : Put before n (10 ∷ []) after r) (less : sent < length (take r after)) where
  start : (b : Bool) → room before n (10 ∷ []) ≡ b → (sent ≤ n) × (take sent (take r after) ≡ take sent before)
  start true e =
      let h : n + 1 ≤ length before = leb-true _ _ e in
      let w = (put-behind _ _ _ _ _ p).bytes h in
      let k = length-take-le n before (omega arith) in
      let f : sent ≤ n = omega (arith, rw w at less, length-append (take n before) (10 ∷ []), k) in
      (f, rw w (take-append-le sent (take n before) (10 ∷ []) (omega arith) ∙ take-take sent n before f))
  start false e =
      let w : r ≡ n = rw e at p.behind in
      let v : after ≡ before = rw e at p.bytes in
      let f : sent ≤ n = omega (arith, rw w at less, length-take n after) in
      (f, rw (w, v) (take-take sent n before f))

pub returns-clause-ok : goal.returns-clause-ok
returns-clause-ok g c h =
    let e = c.front.ensures ∙ (put-behind _ _ _ _ _ c.put.ensures.put).bytes (omega arith) in
    rw (← e) c.write_all.ensures.ok

pub returns-clause-err : goal.returns-clause-err
returns-clause-err g c =
    let before = c.args.out.now in
    on_err_weaker c.write_all.result
    (λ x.
    let s = start before c.put.new.self.out.now c.args.n c.put.new.self.end x.0 c.put.ensures.put (rw c.front.ensures at x.1) _ refl in
    (x.0, s.0, rw (c.front.ensures, s.1) at x.2)) c.write_all.ensures.err
