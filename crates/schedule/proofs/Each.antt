-- A walk over the fields of a line that reads one console after the other.
use Rattle.std.proofs.Common.{◌≡◌, ℕ, suc, ◌+◌, ◌<◌, ◌≤◌, Bool, false, cond, eqb, ltb, ◌≢◌, ◌⊎◌, List, [], ◌∷◌, length, get_or, drop, set, Some, None, Ok, Err, Option, Result, sym, ap, ◌∙◌, subst, inl, inr, add-one, add-zero, arith}
use Rattle.std.specs.Option.{is_none, unwrap_or}
use Rattle.std.proofs.lemmas.List.{get_or-set_same, get_or-set_other, length-set, length-drop, drop-drop, get_or-drop}
use Rattle.std.proofs.lemmas.List.FromFn.{fill_by_all}
use Rattle.std.proofs.lemmas.Bool.{cases_eq, lt-ltb, cond-true, cond-false, eq-eqb, ne_eqb}
use Rattle.std.proofs.lemmas.Bool.Decides.{nat_tests}
use Rattle.console_sets.specs.Sets.{lowest, member}
use Rattle.console_sets.specs.Bound.{max_consoles}
use Rattle.console_sets.proofs.Lowest.{is_lowest, zero-lowest}
use Rattle.schedule.specs.Said.{each_console, proposal_at}

-- the fields of the consoles below c are good and their values kept; rest has the others
pub record Sofar {V : Type 0} (d : V) (says : ℕ → Option V) (fs rest : List (List ℕ)) (values : List V) (c : ℕ) : Type 0 where
  pub left : rest ≡ drop c fs
  pub good : (k : ℕ) → k < c → is_none (says k) ≡ false
  pub long : length values ≡ max_consoles
  pub kept : (k : ℕ) → k < max_consoles → get_or values k d ≡ cond (ltb k c) (unwrap_or (says k) d) d

module _ {V : Type 0} (d : V) (says : ℕ → Option V) (fs : List (List ℕ)) where
  -- what the next field is
  pub next_is : (rest others : List (List ℕ)) (field : List ℕ) (values : List V) (c : ℕ) → Sofar d says fs rest values c → rest ≡ field ∷ others → field ≡ get_or fs c []
  next_is rest others field values c h e = ap (λ (t : List (List ℕ)). get_or t 0 []) (sym e ∙ h.left) ∙ get_or-drop c fs 0 [] ∙ ap (λ (k : ℕ). get_or fs k []) (add-zero c)

  more : (values after : List V) (c : ℕ) (v : V) → length values ≡ max_consoles → says c ≡ Some v
      → (after ≡ set values c v) ⊎ ((after ≡ values) × (max_consoles ≤ c))
      → ((k : ℕ) → k < max_consoles → get_or values k d ≡ cond (ltb k c) (unwrap_or (says k) d) d)
      → (k : ℕ) → k < max_consoles → get_or after k d ≡ cond (ltb k (c + 1)) (unwrap_or (says k) d) d
  more values after c v long is way kept k l = go way (cases_eq k c)
    where
      other : get_or after k d ≡ get_or values k d → k ≢ c → get_or after k d ≡ cond (ltb k (c + 1)) (unwrap_or (says k) d) d
      other e ne = e ∙ kept k l ∙ ap (λ (b : Bool). cond b (unwrap_or (says k) d) d) (grind (arith, nat_tests))

      go : (after ≡ set values c v) ⊎ ((after ≡ values) × (max_consoles ≤ c)) → (k ≡ c) ⊎ (k ≡ c → ⊥) → get_or after k d ≡ cond (ltb k (c + 1)) (unwrap_or (says k) d) d
      go (inl w) (inl e) =
          ap (λ (xs : List V). get_or xs k d) w ∙ ap (λ (i : ℕ). get_or (set values c v) i d) e ∙ get_or-set_same values c v d (omega arith)
          ∙ sym (cond-true (ltb k (c + 1)) _ _ (lt-ltb k (c + 1) (omega arith)) ∙ ap (λ (i : ℕ). unwrap_or (says i) d) e ∙ ap (λ o. unwrap_or o d) is)
      go (inl w) (inr ne) = other (ap (λ (xs : List V). get_or xs k d) w ∙ get_or-set_other values c k v d ne) ne
      go (inr w) (inl e) = absurd (omega (arith, w.1))
      go (inr w) (inr ne) = other (ap (λ (xs : List V). get_or xs k d) w.0) ne

  -- one field more
  pub sofar_more : (rest others : List (List ℕ)) (field : List ℕ) (values after : List V) (c : ℕ) (v : V) → Sofar d says fs rest values c → says c ≡ Some v → rest ≡ field ∷ others
      → (after ≡ set values c v) ⊎ ((after ≡ values) × (max_consoles ≤ c)) → Sofar d says fs others after (c + 1)
  sofar_more rest others field values after c v h is o way = record {
    left = ap (drop 1) (sym o ∙ h.left) ∙ drop-drop 1 c fs;
    good = λ k l. elim (cases_eq k c) [ inl e ↦ ap (λ (i : ℕ). is_none (says i)) e ∙ ap is_none is | inr e ↦ h.good k (omega arith) ];
    long = elim way [ inl w ↦ ap length w ∙ length-set values c v ∙ h.long | inr w ↦ ap length w.0 ∙ h.long ];
    kept = more values after c v h.long is way h.kept;
  }

  -- where no field is left, each was read
  pub none_left : (rest : List (List ℕ)) (values : List V) (c : ℕ) → Sofar d says fs rest values c → rest ≡ [] → length fs ≤ c
  none_left rest values c h e = omega (arith, ap length (sym e ∙ h.left), length-drop c fs)

  -- a bad field, and the end
  pub sofar_bad : (rest : List (List ℕ)) (values : List V) (c n : ℕ) → Sofar d says fs rest values c → c < n → says c ≡ None → lowest (λ k. is_none (says k)) n ≡ suc c
  sofar_bad rest values c n h l is = is_lowest (λ k. is_none (says k)) n c l (ap is_none is) h.good

  pub sofar_all : (rest : List (List ℕ)) (values : List V) (n : ℕ) → Sofar d says fs rest values n → (lowest (λ k. is_none (says k)) n ≡ 0) × (values ≡ each_console n d says)
  unfolding each_console
  sofar_all rest values n h =
      (zero-lowest (λ k. is_none (says k)) n h.good, fill_by_all (λ k. cond (ltb k n) (unwrap_or (says k) d) d) values max_consoles d h.long h.kept)

  -- what the walk answers
  pub answers_bad : (rest : List (List ℕ)) (values : List V) (c n : ℕ) → Sofar d says fs rest values c → c < n → says c ≡ None
      → ◌≡◌ {A = Result (List V) ℕ} (Err (c + 1)) (cond (eqb (lowest (λ k. is_none (says k)) n) 0) (Ok (each_console n d says)) (Err (lowest (λ k. is_none (says k)) n)))
  answers_bad rest values c n h l is =
      let bad : ℕ → Result (List V) ℕ = Err in
      let low : lowest (λ k. is_none (says k)) n ≡ c + 1 = sofar_bad rest values c n h l is ∙ sym (add-one c) in
      sym (cond-false (eqb (lowest (λ k. is_none (says k)) n) 0) _ _ (ne_eqb _ 0 (λ z. omega arith)) ∙ ap bad low)

  pub answers_all : (rest : List (List ℕ)) (values : List V) (c n : ℕ) → Sofar d says fs rest values c → c ≡ n
      → ◌≡◌ {A = Result (List V) ℕ} (Ok values) (cond (eqb (lowest (λ k. is_none (says k)) n) 0) (Ok (each_console n d says)) (Err (lowest (λ k. is_none (says k)) n)))
  answers_all rest values c n h e =
      let good : List V → Result (List V) ℕ = Ok in
      let all = sofar_all rest values n (subst (Sofar d says fs rest values) e h) in
      ap good all.1 ∙ sym (cond-true (eqb (lowest (λ k. is_none (says k)) n) 0) _ _ (eq-eqb _ 0 all.0))

-- what is said of the console whose field is next
pub said_next : {V : Type 0} (d : V) (says : Bool → List ℕ → Option V) (fallen : ℕ) (fs rest others : List (List ℕ)) (field : List ℕ) (values : List V) (c i : ℕ) (fell : Bool) (o : Option V) →
    Sofar d (proposal_at says fallen fs) fs rest values c → rest ≡ field ∷ others → i ≡ c → fell ≡ member fallen i → o ≡ says fell field → proposal_at says fallen fs c ≡ o
said_next d says fallen fs rest others field values c i fell o h e at f is =
    sym (is ∙ (λ j. says ((f ∙ ap (member fallen) at) j) (next_is d (proposal_at says fallen fs) fs rest others field values c h e j)))
