-- What follows from `specs/EarlyResults`. Assumes nothing.
use Rattle.std.specs.Prelude.{◌≡◌, refl, ◌⊎◌, Bool, true, false, cond, ◌&&◌, List, [], ◌∷◌, ◌++◌, map, ℕ, zero, suc, ◌-◌}
use Rattle.std.proofs.Common.{sym, ap, ◌∙◌, true≢false}
use Rattle.std.proofs.Math.Logic.{inl, inr}
use Rattle.execution.specs.Run.{Table, start, step, steps, whole, matches, over}
use Rattle.execution.proofs.ReadAgreement.{both, steps-agree, stay, ended-whole}
use Rattle.model.specs.Lists.{keep}
use Rattle.model.specs.Replica.{Pending, program, finished, advance, used, worked, restarted, walk, validated, result}
use Rattle.model.specs.ListLaws.{All}
use Rattle.model.proofs.ListLaws.{all_keep, all_append, map_map-same}
use Rattle.model.specs.EarlyResults.{Reached, Chain, NotBegun, Ordered, Somewhere, sents}

not-begun_chain : (S : Table) (js : List Pending) → NotBegun js → Chain S js
unfolding steps
not-begun_chain S [] f = tt
not-begun_chain S (j ∷ js) f = ((0, f.0), not-begun_chain (over j.run.writes S) js f.1)

not-begun_ordered : (js : List Pending) → NotBegun js → Ordered js
not-begun_ordered [] f = tt
not-begun_ordered (j ∷ js) f = (inr f.1, not-begun_ordered js f.1)

not-begun_restarted : (js : List Pending) → NotBegun (map restarted js)
unfolding restarted
not-begun_restarted [] = tt
not-begun_restarted (j ∷ js) = (refl, not-begun_restarted js)

-- ---- a delivery, and leaving

pub ordered-keep : (q : Pending → Bool) (js : List Pending) → Ordered js → Ordered (keep q js)
ordered-keep q [] h = tt
ordered-keep q (j ∷ js) h = go' (q j) h.0 (ordered-keep q js h.1)
  where
    go' : (b : Bool) → (finished j ≡ true) ⊎ NotBegun js → Ordered (keep q js) → Ordered (cond b (j ∷ keep q js) (keep q js))
    go' true (inl e) k = (inl e, k)
    go' true (inr f) k = (inr (all_keep _ q js f), k)
    go' false d k = k

pub ordered-append : (js : List Pending) (j : Pending) → Ordered js → j.run ≡ start → Ordered (js ++ (j ∷ []))
ordered-append [] j h e = (inr tt, tt)
ordered-append (i ∷ js) j h e = (go' h.0, ordered-append js j h.1 e)
  where
    go' : (finished i ≡ true) ⊎ NotBegun js → (finished i ≡ true) ⊎ NotBegun (js ++ (j ∷ []))
    go' (inl t) = inl t
    go' (inr f) = inr (all_append _ js j f e)

pub chain-append : (S : Table) (js : List Pending) (j : Pending) → Chain S js → j.run ≡ start → Chain S (js ++ (j ∷ []))
unfolding steps
chain-append S [] j h e = ((0, e), tt)
chain-append S (i ∷ js) j h e = (h.0, chain-append (over i.run.writes S) js j h.1 e)

pub chain-somewhere : (S R : Table) → S.allow ≡ R.allow → (js : List Pending) → Chain R js → All (Somewhere S) js
chain-somewhere S R b [] h = tt
chain-somewhere S R b (j ∷ js) h = ((R, b, h.0), chain-somewhere S (over j.run.writes R) b js h.1)

-- what was reached on such a table, and read what S has, is reached on S
reached_again : (S : Table) (j : Pending) → Somewhere S j → matches S j.run.reads ≡ true → Reached S j
reached_again S j (R, b, (k, e)) m = (k, e ∙ sym (steps-agree S R b (program j) k start (rw e at m)))

not-begun_walk : (S : Table) (js : List Pending) → NotBegun js → NotBegun (walk S js)
unfolding walk start
not-begun_walk S [] f = tt
not-begun_walk S (j ∷ js) f =
    let m : matches S j.run.reads ≡ true = rw f.0 in
    rw m (f.0, not-begun_walk (over j.run.writes S) js f.1)

pub walk-ordered : (S : Table) (js : List Pending) → Ordered js → Ordered (walk S js)
unfolding walk
walk-ordered S [] s = tt
walk-ordered S (j ∷ js) s =
    go' (matches S j.run.reads) refl s.0 (walk-ordered (over j.run.writes S) js s.1)
  where
    go' : (b : Bool) → matches S j.run.reads ≡ b → (finished j ≡ true) ⊎ NotBegun js → Ordered (walk (over j.run.writes S) js) → Ordered (walk S (j ∷ js))
    go' true e (inl t) k = rw e (inl t, k)
    go' true e (inr f) k = rw e (inr (not-begun_walk (over j.run.writes S) js f), k)
    go' false e d k = rw e (not-begun_ordered (map restarted (j ∷ js)) (not-begun_restarted (j ∷ js)))

pub walk-chain : (S : Table) (js : List Pending) → All (Somewhere S) js → Chain S (walk S js)
unfolding walk
walk-chain S [] h = tt
walk-chain S (j ∷ js) h = go' (matches S j.run.reads) refl (walk-chain (over j.run.writes S) js h.1)
  where
    go' : (b : Bool) → matches S j.run.reads ≡ b → Chain (over j.run.writes S) (walk (over j.run.writes S) js) → Chain S (walk S (j ∷ js))
    go' true e k = rw e (reached_again S j h.0 e, k)
    go' false e k = rw e (not-begun_chain S (map restarted (j ∷ js)) (not-begun_restarted (j ∷ js)))

-- ---- work

reached_advance : (S : Table) (c : ℕ) (j : Pending) → Reached S j → Reached S (advance S c j)
unfolding steps advance
reached_advance S zero j h = h
reached_advance S (suc c) j h = let k = reached_advance S c j h in (suc k.0, ap (step S (program j)) k.1)

-- work on the first unfinished transaction
module _ (S : Table) (c : ℕ) (j : Pending) (js : List Pending) where
  still : (finished j ≡ true) ⊎ NotBegun js → (finished (advance S c j) ≡ true) ⊎ NotBegun js
  unfolding advance
  still (inl t) = inl (rw (stay S (program j) c j.run t) t)
  still (inr f) = inr f

  not-begun_after : finished (advance S c j) ≡ false → (finished (advance S c j) ≡ true) ⊎ NotBegun js → NotBegun js
  not-begun_after e (inl t) = absurd (true≢false (sym t ∙ e))
  not-begun_after e (inr f) = f

  chain-after : (finished j ≡ true) ⊎ NotBegun js → Chain (over j.run.writes S) js → Chain (over (advance S c j).run.writes S) js
  unfolding advance
  chain-after (inl t) h = rw (stay S (program j) c j.run t) h
  chain-after (inr f) h = not-begun_chain _ js f

pub worked-chain : (S : Table) (c : ℕ) (js : List Pending) → Ordered js → Chain S js → Chain S (worked S c js)
unfolding worked
worked-chain S c [] s h = tt
worked-chain S c (j ∷ js) s h =
    (reached_advance S c j h.0, go' (finished i) (worked-chain (over i.run.writes S) (c - used S c j) js s.1 before))
  where
    i : Pending
    i = advance S c j

    rest : List Pending
    rest = worked (over i.run.writes S) (c - used S c j) js

    before : Chain (over i.run.writes S) js
    before = chain-after S c j js s.0 h.1

    go' : (b : Bool) → Chain (over i.run.writes S) rest → Chain (over i.run.writes S) (cond b rest js)
    go' true k = k
    go' false k = before

pub worked-ordered : (S : Table) (c : ℕ) (js : List Pending) → Ordered js → Ordered (worked S c js)
unfolding worked
worked-ordered S c [] s = tt
worked-ordered S c (j ∷ js) s =
    go' (finished i) refl (worked-ordered (over i.run.writes S) (c - used S c j) js s.1)
  where
    i : Pending
    i = advance S c j

    rest : List Pending
    rest = worked (over i.run.writes S) (c - used S c j) js

    go' : (b : Bool) → finished i ≡ b → Ordered rest → Ordered (i ∷ cond b rest js)
    go' true e k = (inl e, k)
    go' false e k = (inr (not-begun_after S c j js e (still S c j js s.0)), s.1)

-- work changes no key and no body
pub worked-sents : (S : Table) (c : ℕ) (js : List Pending) → sents (worked S c js) ≡ sents js
unfolding worked advance
worked-sents S c [] = refl
worked-sents S c (j ∷ js) = go' (finished i) (worked-sents (over i.run.writes S) (c - used S c j) js)
  where
    i : Pending
    i = advance S c j

    rest : List Pending
    rest = worked (over i.run.writes S) (c - used S c j) js

    go' : (b : Bool) → sents rest ≡ sents js → sents (i ∷ cond b rest js) ≡ sents (j ∷ js)
    go' true h = ap (j.sent ∷◌) h
    go' false h = refl

-- the walk neither
pub walk-sents : (S : Table) (js : List Pending) → sents (walk S js) ≡ sents js
unfolding walk restarted
walk-sents S [] = refl
walk-sents S (j ∷ js) = go' (matches S j.run.reads) (walk-sents (over j.run.writes S) js)
  where
    rest : List Pending
    rest = walk (over j.run.writes S) js

    go' : (b : Bool) → sents rest ≡ sents js → sents (cond b (j ∷ rest) (map restarted (j ∷ js))) ≡ sents (j ∷ js)
    go' true h = ap (j.sent ∷◌) h
    go' false h = map_map-same (λ (j : Pending). j.sent) restarted (j ∷ js) (λ j. refl)

-- ---- validation

-- "its early outcome and stores are kept; else it is run whole": either way the result is the whole run on the committed table
pub result-whole : (S : Table) (j : Pending) → Somewhere S j → result S j ≡ whole S (program j)
unfolding result validated
result-whole S j h = go' (validated S j) refl
  where
    go' : (b : Bool) → finished j && matches S j.run.reads ≡ b → cond b j.run (whole S (program j)) ≡ whole S (program j)
    go' true e =
        let k = both (finished j) (matches S j.run.reads) e in
        let r = reached_again S j h k.1 in
        r.1 ∙ ended-whole S (program j) r.0 (rw (← r.1) k.0)
    go' false e = refl
