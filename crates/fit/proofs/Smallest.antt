-- The smaller of what the two passes find is the smallest node that breaks a rule. Assumes nothing.
use mathlib.Core.Path.{◌≡◌, refl, sym, subst, ◌∙◌}
use mathlib.Core.Logic.{◌⊎◌, inl, inr}
use mathlib.Core.Bool.{Bool, true, false, ◌&&◌, and-true, and-false, or-true, cond}
use Prim.Native.Nat.{ℕ, ◌≤◌, ◌<◌, min}
use native.Mathlib.Omega.{arith}
use native.Mathlib.Decide.{dec_lt}
use lib.Dec.{T, eqb, ltb, eqb→eq, ltb→lt}
use lib.ListN.{length}
use borrow.Author.Tests.{eq-eqb, lt-ltb}
use Rattle.std.specs.Prelude.{Option, None, Some}
use Rattle.rules.specs.Net.{Net}
use Rattle.rules.specs.Fit.{Rows}
use Rattle.rules.specs.Tests.{usable, reached, offers, sum_by, breaks}
use Rattle.rules.specs.Columns.{Table, Arrays, narrow, net_in, rows_in, most_nodes}
use Rattle.rules.specs.Refusals.{only, Verdict, accepted, refused, judge_links, judge_tree, judge_tree_in}
use Rattle.rules.specs.Answers.{refusal}
use Rattle.rules.specs.declared.Profile.{Profile}
use Rattle.rules.specs.declared.Refusal.{Refusal}
use Rattle.rules.proofs.Logic.{First, first_is, and_l, and_r, or_cases, true_T, T_true}
use Rattle.rules.proofs.OneOutcome.{refusal_refuses}
use Rattle.offends.specs.Offends.{has_more, offers_less, offends, LeastOffended, LeastOffendedOf}
use Rattle.alone.specs.Alone.{FirstWrong, FirstWrongOf}
use Rattle.fit.proofs.Breaks.{Less, bad_row, right_row, bad_offer}

-- ---- what a link that offends offers

more_cases : (mark s d : ℕ) → T (has_more mark s d) → (s < d) ⊎ (d ≡ mark)
more_cases mark s d m = by (or_cases (ltb s d) (eqb d mark) m)
  where
    by : T (ltb s d) ⊎ T (eqb d mark) → (s < d) ⊎ (d ≡ mark)
    by (inl less) = inl (ltb→lt s d less)
    by (inr far) = inr (eqb→eq d mark far)

more_is : (mark s d : ℕ) → (s < d) ⊎ (d ≡ mark) → has_more mark s d ≡ true
more_is mark s d (inl less) = rw (lt-ltb s d less)
more_is mark s d (inr far) = rw (eq-eqb d mark far, or-true)

-- whether the link is usable is asked last here, and first by the rule
usable_first : (u a b c : Bool) → (a && b && c && u) ≡ (u && true && a && b && c)
usable_first true a b c = and-true (a && b && c)
usable_first false a b c = and-false (a && b && c)

module _ (N : Net) (r : Rows) where
  offer_ends : (k v : ℕ) → offers N r k v ≡ true → N.end k ≡ v
  unfolding offers
  offer_ends k v o =
      let ends = eqb (N.end k) v in
      let starts = reached N r (N.start k) in
      let both = and_l (usable N k && ends && starts) (ltb (sum_by N r k) N.ceiling) (true_T (offers N r k v) o) in
      eqb→eq (N.end k) v (and_r (usable N k) ends (and_l (usable N k && ends) starts both))

  abbrev end_has_more : ℕ → Bool
  end_has_more k = has_more N.mark (sum_by N r k) (r.dist (N.end k))

  offends_is : (k : ℕ) → offends N r.dist k ≡ (offers N r k (N.end k) && end_has_more k)
  unfolding offends offers_less offers reached
  offends_is k = rw (eq-eqb (N.end k) (N.end k) refl) (usable_first (usable N k) _ _ _)

  less_at : {v : ℕ} (k : ℕ) → k < N.links → offends N r.dist k ≡ true → N.end k ≡ v → Less N r v k
  less_at k l o e =
      let offer = offers N r k (N.end k) in
      let both = true_T (offer && end_has_more k) (sym (offends_is k) ∙ o) in
      let more = more_cases N.mark (sum_by N r k) (r.dist (N.end k)) (and_r offer (end_has_more k) both) in
      subst (λ (v : ℕ). Less N r v k) e
      (record { is_link = l; offered = T_true offer (and_l offer (end_has_more k) both); more = more })

  offends_at : (v k : ℕ) → Less N r v k → (offends N r.dist k ≡ true) × (N.end k ≡ v)
  offends_at v k h =
      let ends = offer_ends k v h.offered in
      let more = more_is N.mark (sum_by N r k) (r.dist v) h.more in
      (offends_is k ∙ rw (ends, h.offered, more), ends)

  -- ---- both passes

  -- a is the first row that is wrong by itself, and b the smallest node that a link offers less
  module _ {a b : ℕ} (f : FirstWrong N r a) (o : LeastOffended N r.dist N.links b) where
    none_before : (v : ℕ) → v < a → v < b → breaks N r v ≡ false
    none_before v l m =
        right_row N r v
        (λ k h. let offends = offends_at v k h in omega (arith, o.least k h.is_link offends.0, offends.1))
        (f.before.right v l)

    row_first : a ≤ b → First (breaks N r) most_nodes a
    row_first l = record {
      within = f.within;
      before = λ v m. none_before v m (omega arith);
      passes = λ m. bad_row N r a (f.wrong m);
    }

    offended_first : 0 < N.mark → b < a → First (breaks N r) most_nodes b
    offended_first far l = record {
      within = o.within;
      before = λ v m. none_before v (omega arith) m;
      passes = λ m. let h = o.offended m in bad_offer N r b far (less_at h.link h.is_link h.offends h.ends_at);
    }

    pub smaller_first : 0 < N.mark → {v : ℕ} → v ≡ min a b → First (breaks N r) most_nodes v
    smaller_first far {v} is = by (dec_lt b a)
      where
        by : Dec (b < a) → First (breaks N r) most_nodes v
        by (yes l) = let same : v ≡ b = omega arith in rw same (offended_first far l)
        by (no l) = let same : v ≡ a = omega arith in rw same (row_first (omega arith))

-- ---- the verdict

module _ (p : Profile) (t : Table) (tree : Arrays) (right : judge_links t ≡ accepted) (far : 0 < p.mark) where
  decides : {v : ℕ} → First (breaks (net_in p t) (rows_in p tree)) most_nodes v → cond (ltb v most_nodes) (refused 6 (only v)) accepted ≡ judge_tree_in p t tree
  decides f = rw (right, first_is f)

  breaks_at : {v : ℕ} → v < most_nodes → First (breaks (net_in p t) (rows_in p tree)) most_nodes v → refused 6 (only v) ≡ judge_tree_in p t tree
  breaks_at {v} l f = rw (lt-ltb v most_nodes l) at (decides f)

  abbrev FirstRow : Option ℕ → Type 0
  FirstRow a = FirstWrongOf (net_in p t) (rows_in p tree) a

  abbrev FirstOffended : Option ℕ → Type 0
  FirstOffended b = LeastOffendedOf (net_in p t) (rows_in p tree).dist (length t.starts) b

  pub both_decide : {a b v : ℕ} → FirstRow (Some a) → FirstOffended (Some b) → v ≡ min a b → refused 6 (only v) ≡ judge_tree_in p t tree
  both_decide f o is = breaks_at (omega (arith, f.0)) (smaller_first _ _ f.1 o.1 far is)

  pub row_decides : {a : ℕ} → FirstRow (Some a) → FirstOffended None → refused 6 (only a) ≡ judge_tree_in p t tree
  row_decides f o = breaks_at f.0 (smaller_first _ _ f.1 o far (omega (arith, f.0)))

  pub offended_decides : {b : ℕ} → FirstRow None → FirstOffended (Some b) → refused 6 (only b) ≡ judge_tree_in p t tree
  offended_decides f o = breaks_at o.0 (smaller_first _ _ f o.1 far (omega (arith, o.0)))

  pub none_decides : FirstRow None → FirstOffended None → accepted ≡ judge_tree_in p t tree
  none_decides f o = decides {v = most_nodes} (smaller_first _ _ f o far (omega arith))

refused_decides : (t : Table) (tree : Arrays) (verdict : Verdict) → (verdict ≡ accepted → ⊥) → verdict ≡ judge_links t → verdict ≡ judge_tree t tree
unfolding judge_tree
refused_decides t tree accepted refuses is = absurd (refuses refl)
refused_decides t tree (refused number values) refuses is = rw (← is)

pub links_refuse : (t : Table) (tree : Arrays) (r : Refusal) → refusal r ≡ judge_links t → refusal r ≡ judge_tree t tree
links_refuse t tree r is = refused_decides t tree (refusal r) (refusal_refuses r) is

pub narrow_decides : (p : Profile) (t judged : Table) (tree : Arrays) (verdict : Verdict) → p ≡ narrow → judged ≡ t
    → verdict ≡ judge_tree_in p judged tree → verdict ≡ judge_tree t tree
unfolding judge_tree
narrow_decides p t judged tree verdict e same is = rw (e, same) at is
