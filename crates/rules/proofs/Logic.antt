-- Tests and what they say; the first place that passes a test; induction on a size. Assumes nothing.
use mathlib.Core.Path.{◌≡◌, refl, subst}
use mathlib.Core.Logic.{◌⊎◌, inl, inr, ◌≢◌}
use mathlib.Core.List.{List}
use mathlib.Core.Bool.{Bool, true, false, ◌&&◌, ◌||◌, not, cond}
use Prim.Native.Nat.{ℕ, zero, suc, ◌+◌, ◌≤◌, ◌<◌}
use native.Mathlib.Omega.{arith}
use native.Mathlib.Nat.{not-suc-le-zero, lt-suc_self}
use native.Mathlib.Decide.{dec_lt, ℕ_discrete}
use lib.Dec.{T, eqb, eqb→eq, eqb_refl, T_not, not_T}
use lib.ListN.{length, get_or}
use lib.Seq.{drop-cons}
use borrow.Author.Tests.{lt-ltb, le-ltb}
use Rattle.rules.specs.Keep.{one, count}
use Rattle.rules.specs.Tests.{all, or_next, first_below}

-- ---- tests

pub and_l : (a b : Bool) → T (a && b) → T a
and_l true b t = tt
and_l false b t = t

pub and_r : (a b : Bool) → T (a && b) → T b
and_r true b t = t
and_r false b t = absurd t

pub and : (a b : Bool) → T a → T b → T (a && b)
and true b p q = q
and false b p q = p

pub or_cases : (a b : Bool) → T (a || b) → T a ⊎ T b
or_cases true b t = inl tt
or_cases false b t = inr t

pub or_l : (a b : Bool) → T a → T (a || b)
or_l true b t = t
or_l false b t = absurd t

pub or_r : (a b : Bool) → T b → T (a || b)
or_r true b t = tt
or_r false b t = t

pub T_true : (b : Bool) → T b → b ≡ true
T_true true t = refl
T_true false t = absurd t

pub true_T : (b : Bool) → b ≡ true → T b
true_T b e = rw e tt

pub T_false : (b : Bool) → ¬ (T b) → b ≡ false
T_false true t = absurd (t tt)
T_false false t = refl

pub false_T : (b : Bool) → b ≡ false → ¬ (T b)
false_T b e t = rw e at t

pub true_false : true ≡ false → ⊥
true_false e = false_T true e tt

pub or-false : (a b : Bool) → a ≡ false → b ≡ false → (a || b) ≡ false
or-false a b p q = rw (p, q)

pub eq→eqb : (m n : ℕ) → m ≡ n → T (eqb m n)
eq→eqb m n e = subst (λ (x : ℕ). T (eqb m x)) e (eqb_refl m)

pub neqb→ne : (m n : ℕ) → T (not (eqb m n)) → m ≢ n
neqb→ne m n t e = T_not (eqb m n) t (eq→eqb m n e)

pub ne→neqb : (m n : ℕ) → m ≢ n → T (not (eqb m n))
ne→neqb m n d = not_T (eqb m n) (λ t. d (eqb→eq m n t))

-- ---- a test of each number below n

pub all_at : (p : ℕ → Bool) (n : ℕ) → T (all p n) → (v : ℕ) → v < n → T (p v)
unfolding all
all_at p zero t v l = absurd (not-suc-le-zero l)
all_at p (suc n) t v l = at (all_at p n (and_r (p n) (all p n) t) v) (ℕ_discrete v n)
  where
    at : (v < n → T (p v)) → Dec (v ≡ n) → T (p v)
    at before (yes e) = rw e (and_l (p n) (all p n) t)
    at before (no d) = before (omega arith)

pub all_is : (p : ℕ → Bool) (n : ℕ) → ((v : ℕ) → v < n → T (p v)) → T (all p n)
unfolding all
all_is p zero f = tt
all_is p (suc n) f = and (p n) (all p n) (f n (omega arith)) (all_is p n (λ v l. f v (omega arith)))

-- ---- the first number below n that passes

-- f is the first number below n that passes, or n
pub record First (p : ℕ → Bool) (n f : ℕ) : Type 0 where
  pub within : f ≤ n
  pub before : (j : ℕ) → j < f → p j ≡ false
  pub passes : f < n → p f ≡ true

first_next : (p : ℕ → Bool) (n : ℕ) (b : Bool) → p n ≡ b → {f : ℕ} → First p n f → First p (suc n) (or_next n b f)
first_next p n b e {f} h = at (dec_lt f n) b e
  where
    here : (b : Bool) → p n ≡ b → n ≤ f → First p (suc n) (cond b n (suc n))
    here true q l = record { within = omega arith; before = λ j m. h.before j (omega arith); passes = λ m. q }
    here false q l = record { within = omega arith; before = λ j m. last j m (ℕ_discrete j n); passes = λ m. absurd (omega arith) }
      where
        last : (j : ℕ) → j < suc n → Dec (j ≡ n) → p j ≡ false
        last j m (yes s) = rw s q
        last j m (no d) = h.before j (omega (arith, h.within))

    at : Dec (f < n) → (b : Bool) → p n ≡ b → First p (suc n) (or_next n b f)
    at (yes l) b q = rw (lt-ltb f n l) (record { within = omega arith; before = h.before; passes = λ m. h.passes l })
    at (no l) b q = rw (le-ltb f n (omega arith)) (here b q (omega arith))

pub first_of : (p : ℕ → Bool) (n : ℕ) → First p n (first_below p n)
unfolding first_below
first_of p zero = record { within = omega arith; before = λ j l. absurd (not-suc-le-zero l); passes = λ l. absurd (not-suc-le-zero l) }
first_of p (suc n) = first_next p n (p n) refl (first_of p n)

first_unique : (p : ℕ → Bool) (n f g : ℕ) → First p n f → First p n g → f < g → ⊥
first_unique p n f g a b l = false_T (p f) (b.before f l) (true_T (p f) (a.passes (omega (arith, b.within))))

pub first_is : {p : ℕ → Bool} {n f : ℕ} → First p n f → first_below p n ≡ f
first_is {p} {n} {f} h = at (dec_lt (first_below p n) f) (dec_lt f (first_below p n))
  where
    at : Dec (first_below p n < f) → Dec (f < first_below p n) → first_below p n ≡ f
    at (yes l) d = absurd (first_unique p n (first_below p n) f (first_of p n) h l)
    at (no l) (yes m) = absurd (first_unique p n f (first_below p n) h (first_of p n) m)
    at (no l) (no m) = omega arith

-- ---- lists

-- below its length a list has an entry, whatever stands in for the others
pub get_d_any : (l : List ℕ) (i a b : ℕ) → i < length l → get_or l i a ≡ get_or l i b
get_d_any l i a b h = cc (drop-cons l i a h, drop-cons l i b h)

-- ---- how many numbers below n pass

one_le : (a b : Bool) → (T a → T b) → one a ≤ one b
one_le true true f = omega arith
one_le true false f = absurd (f tt)
one_le false b f = omega arith

pub count_le : (p q : ℕ → Bool) (n : ℕ) → ((v : ℕ) → v < n → T (p v) → T (q v)) → count p n ≤ count q n
unfolding count
count_le p q zero f = omega arith
count_le p q (suc n) f =
    let a = one_le (p n) (q n) (f n (omega arith)) in
    let b = count_le p q n (λ v l. f v (omega arith)) in
    omega arith

-- one number passes the second test and not the first
pub count_lt : (p q : ℕ → Bool) (n : ℕ) → ((v : ℕ) → v < n → T (p v) → T (q v)) → (u : ℕ) → u < n → ¬ (T (p u)) → T (q u) → count p n < count q n
unfolding count
count_lt p q zero f u l a b = absurd (not-suc-le-zero l)
count_lt p q (suc n) f u l a b = at (count_lt p q n (λ v m. f v (omega arith)) u) (ℕ_discrete u n)
  where
    at : (u < n → ¬ (T (p u)) → T (q u) → count p n < count q n) → Dec (u ≡ n) → one (p n) + count p n < one (q n) + count q n
    at before (yes e) =
        let rest = count_le p q n (λ v m. f v (omega arith)) in
        let fail : p n ≡ false = T_false (p n) (rw (← e) a) in
        let pass : q n ≡ true = T_true (q n) (rw (← e) b) in
        rw (fail, pass) (omega arith)
    at before (no d) =
        let rest = before (omega arith) a b in
        let here = one_le (p n) (q n) (f n (omega arith)) in
        omega arith

pub count_all : (n : ℕ) → count (λ v. true) n ≡ n
unfolding count
count_all zero = refl
count_all (suc n) = let before = count_all n in omega arith

-- ---- induction on a number that each thing has

-- what holds of v as soon as it holds of each u whose size is smaller, holds of every v
module _ (size : ℕ → ℕ) (P : ℕ → Type 0) (step : (v : ℕ) → ((u : ℕ) → size u < size v → P u) → P v) where
  under : (bound v : ℕ) → size v < bound → P v
  under zero v h = absurd (not-suc-le-zero h)
  under (suc b) v h = step v (λ u l. under b u (omega arith))

  pub by_size : (v : ℕ) → P v
  by_size v = under (suc (size v)) v (lt-suc_self (size v))
