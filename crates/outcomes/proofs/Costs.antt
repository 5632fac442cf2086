-- Costs are 16-bit numbers through every record, if those of the LINKs and CHANGEs are. Assumes nothing.
use mathlib.Core.Path.{◌≡◌, refl, sym, ap, ◌∙◌}
use mathlib.Core.List.{List, [], ◌∷◌}
use Prim.Native.Nat.{ℕ, suc, ◌+◌, ◌-◌, ◌≤◌, ◌<◌}
use native.Mathlib.Omega.{arith}
use native.Mathlib.Decide.{dec_lt, ℕ_discrete}
use lib.ListN.{length, get_or, set, take, drop}
use lib.Seq.{get_or-set_same, get_or-set_other, set_out, get_or-take, get_or-drop}
use Rattle.rules.specs.Columns.{applied, most_cost}
use Rattle.rules.specs.Refusals.{Verdict, accepted, refused}
use Rattle.rules.specs.Demands.{SixteenBit}
use Rattle.rules.proofs.Accepted.{update_accept}
use Rattle.batch.specs.Rows.{rows_of_columns}
use Rattle.stream.specs.declared.Item.{Item}
use Rattle.enter.specs.More.{entered}
use Rattle.state.specs.declared.State.{State}
use Rattle.state.specs.declared.Done.{Done}
use Rattle.session.specs.declared.Lists.{Lists}
use Rattle.session.specs.Steps.{link_verdict, change_verdict, Applied, Steps, out_of_order, unknown, cut, ended, network, link, change, apply, ask}
use Rattle.outcomes.specs.Outcomes.{CostFits, CostsFit}
use Rattle.outcomes.proofs.Led.{narrow_front}

narrow_set : {l : List ℕ} (i x : ℕ) → SixteenBit l → x ≤ most_cost → SixteenBit (set l i x)
narrow_set {l} i x n fits = record { narrow = λ k. at k (ℕ_discrete k i) (dec_lt i (length l)) }
  where
    at : (k : ℕ) → Dec (k ≡ i) → Dec (i < length l) → get_or (set l i x) k 0 ≤ most_cost
    at k (yes e) (yes inside) = rw (e, get_or-set_same l i x 0 inside) fits
    at k (yes e) (no past) = rw (set_out l i x (omega arith)) (n.narrow k)
    at k (no e) inside = rw (get_or-set_other l i k x 0 e) (n.narrow k)

narrow_entered : (v : Verdict) {l : List ℕ} (i x : ℕ) → SixteenBit l → x ≤ most_cost → SixteenBit (entered v l i x)
narrow_entered accepted i x n fits = narrow_set i x n fits
narrow_entered (refused number values) i x n fits = n

narrow_applied : (links prices costs : List ℕ) → SixteenBit prices → SixteenBit costs → SixteenBit (applied (rows_of_columns links prices) costs)
unfolding applied rows_of_columns
narrow_applied [] prices costs p c = c
narrow_applied (named ∷ links) [] costs p c = c
narrow_applied (named ∷ links) (price ∷ prices) costs p c =
    narrow_applied links prices (set costs named price) (record { narrow = λ k. p.narrow (suc k) }) (narrow_set named price c (p.narrow 0))

-- a column of which the front is narrow, and the rest is that of a narrow one
narrow_whole : (n : ℕ) (l old : List ℕ) → SixteenBit (take n l) → SixteenBit old → drop n l ≡ drop n old → SixteenBit l
narrow_whole n l old front rest e = record { narrow = λ k. at k (dec_lt k n) }
  where
    at : (k : ℕ) → Dec (k < n) → get_or l k 0 ≤ most_cost
    at k (yes before) = rw (← get_or-take n l k 0 before) (front.narrow k)
    at k (no past) =
        let here : n + (k - n) ≡ k = omega arith in
        let same : get_or l k 0 ≡ get_or old k 0 =
        sym (ap (λ (j : ℕ). get_or l j 0) here) ∙ sym (get_or-drop n l (k - n) 0) ∙ ap (λ (m : List ℕ). get_or m (k - n) 0) e ∙ get_or-drop n old (k - n) 0
        ∙ ap (λ (j : ℕ). get_or old j 0) here in
        rw same (rest.narrow k)

applied_narrow : {s : State} {starts ends costs changed newcosts list : List ℕ} {d : Done} {costs' list' : List ℕ} → Applied s starts ends costs changed newcosts list d costs' list'
    → SixteenBit costs → SixteenBit newcosts → SixteenBit costs'
applied_narrow {s} {costs = costs} {changed} {newcosts} {costs' = costs'} a c n =
    let front = narrow_applied (take s.rows changed) (take s.rows newcosts) (take s.links costs) (narrow_front s.rows n) (narrow_front s.links c) in
    narrow_whole s.links costs' costs (rw (update_accept a.updated refl).costs front) c a.beyond

-- the lent columns stay narrow, whatever the record does
pub steps_fit : {s : State} {k : Lists} {item : Item} {d : Done} {l : Lists} → CostsFit k → CostFits item → Steps s k item d l → CostsFit l
steps_fit f c (out_of_order e) = f
steps_fit f c unknown = f
steps_fit f c cut = f
steps_fit f c (ended e) = f
steps_fit f c (network p) = f
steps_fit {s} {k} f c (link {start} {end} {cost} p) =
    record { costs = narrow_entered (link_verdict s k start end cost) s.links cost f.costs c; newcosts = f.newcosts }
steps_fit {s} {k} f c (change {link = named} {cost} {r} ready) =
    record { costs = f.costs; newcosts = narrow_entered (change_verdict r k named cost) r.rows cost f.newcosts c }
steps_fit f c (apply ready a) = record { costs = applied_narrow a f.costs f.newcosts; newcosts = f.newcosts }
steps_fit f c (ask ready) = f
