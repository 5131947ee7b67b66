-- The laws of `rank`: who takes part is ranked as authors precede each other, whatever the lawful order.
use Rattle.std.proofs.Common.{◌≡◌, ℕ, zero, suc, ◌<◌, ◌≤◌, Bool, true, false, ◌&&◌, ltb, ◌⊎◌, List, [], ◌∷◌, length, set, sym, refl, ap, ◌∙◌, ap₂, inl, inr, arith}
use Rattle.std.specs.List.{slice_get}
use Rattle.std.proofs.lemmas.Bool.{cases_Bool, both_ways, and_parts, and_from, and_left, and_right, lt-ltb, le-ltb, ltb-true, cond-true, cond-false}
use Rattle.console_sets.specs.Sets.{count, member}
use Rattle.console_sets.proofs.Counting.{count_same, count_empty, count_ends, count_strict}
use Rattle.std.specs.declared.cmp.Ordering.{Ordering}
use Rattle.std.specs.declared.cmp.Ordering.TheVariants.{Less, Equal, Greater}
use Rattle.std.specs.Ordering.{is_lt, nat_cmp, ordering_reverse, ordering_then}
use Rattle.orders.specs.Orders.{Lawful}
use Rattle.orders.specs.Ranks.{among, between, precedes, takes_part, ahead_of, rank}
use Rattle.orders.specs.Laws.{Ranking, Unread}
use Rattle.orders.proofs.Lawful.{lawful_number, number_same, lawful_then}

-- ---- authors: by their proposals, then by their numbers

before_is : (x : Ordering) → is_lt x ≡ true → x ≡ Less
before_is x e = grind arith

module _ (place : ℕ → ℕ → Ordering) (o : Lawful place) where
  lawful_authors : Lawful (λ a b. ordering_then (place a b) (nat_cmp a b))
  lawful_authors = lawful_then place nat_cmp o lawful_number

  pub precedes_onward : (a b c : ℕ) → precedes place a b ≡ true → precedes place b c ≡ true → precedes place a c ≡ true
  precedes_onward a b c e f = ap is_lt (lawful_authors.onward a b c (before_is _ e) (before_is _ f))

  pub precedes_self : (a : ℕ) → precedes place a a ≡ false
  precedes_self a = go (ordering_then (place a a) (nat_cmp a a)) (lawful_authors.mirrored a a)
    where
      go : (x : Ordering) → x ≡ ordering_reverse x → is_lt x ≡ false
      go x e = grind arith

  pub precedes_back : (a b : ℕ) → precedes place b a ≡ true → precedes place a b ≡ false
  precedes_back a b f =
      elim (cases_Bool (precedes place a b)) [
        | inl e ↦ absurd (both_ways (precedes place a a) (precedes_self a) (precedes_onward a b a e f))
        | inr e ↦ e
      ]

  pub precedes_total : (a b : ℕ) → (precedes place a b ≡ true) ⊎ ((precedes place b a ≡ true) ⊎ (a ≡ b))
  precedes_total a b = go (place a b) (nat_cmp a b) (number_same a b) (lawful_authors.mirrored b a)
    where
      go : (x y : Ordering) → (y ≡ Equal → a ≡ b) → ordering_then (place b a) (nat_cmp b a) ≡ ordering_reverse (ordering_then x y)
          → (is_lt (ordering_then x y) ≡ true) ⊎ ((precedes place b a ≡ true) ⊎ (a ≡ b))
      go Less y s m = inl refl
      go Equal Less s m = inl refl
      go Equal Equal s m = inr (inr (s refl))
      go Equal Greater s m = inr (inl (ap is_lt m))
      go Greater y s m = inr (inl (ap is_lt m))

-- ---- the rank of one author

module _ (n running : ℕ) where
  rank_in : (place : ℕ → ℕ → Ordering) (a : ℕ) → takes_part n running a ≡ true
      → rank n running place a ≡ count (ahead_of n running place a) n
  unfolding rank
  rank_in place a e = cond-true (takes_part n running a) _ _ e

  pub rank_out : (place : ℕ → ℕ → Ordering) (a : ℕ) → takes_part n running a ≡ false → rank n running place a ≡ 0
  unfolding rank
  rank_out place a e = cond-false (takes_part n running a) _ _ e

  -- as the code counts: below any m that leaves out none that runs
  pub rank-count : (place : ℕ → ℕ → Ordering) (m a : ℕ) → ((c : ℕ) → m ≤ c → member running c ≡ false)
      → count (λ b. takes_part n running a && ahead_of n running place a b) m ≡ rank n running place a
  rank-count place m a far =
      let counted : ℕ → Bool = λ b. takes_part n running a && ahead_of n running place a b in
      elim (cases_Bool (takes_part n running a)) [
        | inr out ↦ count_empty counted m (λ b l. and_left _ (ahead_of n running place a b) out) ∙ sym (rank_out place a out)
        | inl into ↦
            count_same counted (ahead_of n running place a) m (λ b l. ap (λ (x : Bool). x && ahead_of n running place a b) into)
            ∙ count_ends (ahead_of n running place a) m n (λ b l. and_left _ _ (and_right (ltb b n) _ (far b l)))
            (λ b l. and_left _ _ (and_left _ (member running b) (le-ltb b n l)))
            ∙ sym (rank_in place a into)
      ]

  -- ---- equal comparisons give equal ranks

  pub rank_alike : (p q : ℕ → ℕ → Ordering)
      → ((a b : ℕ) → takes_part n running a ≡ true → takes_part n running b ≡ true → p a b ≡ q a b) → (c : ℕ) → rank n running p c ≡ rank n running q c
  rank_alike p q h c =
      elim (cases_Bool (takes_part n running c)) [
        | inr out ↦ rank_out p c out ∙ sym (rank_out q c out)
        | inl into ↦
            rank_in p c into ∙ count_same (ahead_of n running p c) (ahead_of n running q c) n
            (λ b l. elim (cases_Bool (takes_part n running b)) [
              | inr off ↦ and_left _ _ off ∙ sym (and_left _ _ off)
              | inl on ↦ ap (λ (x : Ordering). takes_part n running b && is_lt (ordering_then x (nat_cmp b c))) (h b c on into)
            ])
            ∙ sym (rank_in q c into)
      ]

  -- ---- a lower rank precedes

  module _ (place : ℕ → ℕ → Ordering) (o : Lawful place) where
    pub rank_lt : (a b : ℕ) → takes_part n running a ≡ true → takes_part n running b ≡ true → precedes place a b ≡ true
        → rank n running place a < rank n running place b
    rank_lt a b ha hb e =
        let pa : ℕ → Bool = ahead_of n running place a in
        let pb : ℕ → Bool = ahead_of n running place b in
        let more : count pa n < count pb n = count_strict pa pb n
        (λ c l h. let q = and_parts (takes_part n running c) (precedes place c a) h in and_from _ _ q.0 (precedes_onward place o c a b q.1 e))
        a (ltb-true a n (and_parts (ltb a n) (member running a) ha).0) (and_right (takes_part n running a) _ (precedes_self place o a)) (and_from _ _ ha e) in
        omega (arith, rank_in place a ha, rank_in place b hb)

    pub rank_apart : (a b : ℕ) → takes_part n running a ≡ true → takes_part n running b ≡ true
        → rank n running place a ≡ rank n running place b → a ≡ b
    rank_apart a b ha hb e =
        elim (precedes_total place o a b) [
          | inl f ↦ absurd (omega (arith, rank_lt a b ha hb f))
          | inr (inl f) ↦ absurd (omega (arith, rank_lt b a hb ha f))
          | inr (inr s) ↦ s
        ]

    pub rank_lower : (a b : ℕ) → takes_part n running a ≡ true → takes_part n running b ≡ true
        → ltb (rank n running place a) (rank n running place b) ≡ precedes place a b
    rank_lower a b ha hb =
        let ra = rank n running place a in
        let rb = rank n running place b in
        elim (precedes_total place o a b) [
          | inl f ↦ lt-ltb ra rb (rank_lt a b ha hb f) ∙ sym f
          | inr (inl f) ↦ le-ltb ra rb (omega (arith, rank_lt b a hb ha f)) ∙ sym (precedes_back place o a b f)
          | inr (inr s) ↦ le-ltb ra rb (omega (arith, ap (rank n running place) s)) ∙ sym (ap (λ (x : ℕ). precedes place x b) s ∙ precedes_self place o b)
        ]

    -- a proposal is not before one whose author's rank is not higher
    pub not_before : (a b : ℕ) → takes_part n running a ≡ true → takes_part n running b ≡ true
        → rank n running place b ≤ rank n running place a → is_lt (place a b) ≡ false
    not_before a b ha hb l = go (place a b) (sym (rank_lower a b ha hb) ∙ le-ltb _ _ l)
      where
        go : (x : Ordering) → is_lt (ordering_then x (nat_cmp a b)) ≡ false → is_lt x ≡ false
        go x e = grind arith

    pub ranking : (ranks : ℕ → ℕ) → ((c : ℕ) → ranks c ≡ rank n running place c) → Ranking n running place ranks
    ranking ranks each = record {
      apart = λ a b ha hb e. rank_apart a b ha hb (sym (each a) ∙ e ∙ each b);
      lower = λ a b ha hb. ap₂ ltb (each a) (each b) ∙ rank_lower a b ha hb;
      alike = λ other h c. rank_alike other place h c ∙ sym (each c);
    }

-- ---- the proposals that are read, and those that are not

nth_set_other : {P : Type 0} (xs : List P) (f a : ℕ) (x : P) → (a ≡ f → ⊥) → slice_get (set xs f x) a ≡ slice_get xs a
nth_set_other [] f a x ne = refl
nth_set_other (y ∷ ys) zero zero x ne = absurd (ne refl)
nth_set_other (y ∷ ys) zero (suc a) x ne = refl
nth_set_other (y ∷ ys) (suc f) zero x ne = refl
nth_set_other (y ∷ ys) (suc f) (suc a) x ne = nth_set_other ys f a x (λ e. ne (ap suc e))

pub rank_unread : {P : Type 0} (places : P → P → Ordering) (proposals : List P) (running : ℕ) (ranks : ℕ → ℕ)
    → ((c : ℕ) → ranks c ≡ rank (length proposals) running (between places proposals) c) → Unread places proposals running ranks
rank_unread places proposals running ranks each f x out c =
    rank_alike (length proposals) running (between places (set proposals f x)) (between places proposals)
    (λ a b ha hb. ap₂ (among places) (nth_set_other proposals f a x (apart a ha)) (nth_set_other proposals f b x (apart b hb))) c
    ∙ sym (each c)
  where
    apart : (a : ℕ) → takes_part (length proposals) running a ≡ true → a ≡ f → ⊥
    apart a h e = both_ways (member running f) out (ap (member running) (sym e) ∙ (and_parts (ltb a (length proposals)) (member running a) h).1)
