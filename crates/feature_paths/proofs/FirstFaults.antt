-- The first fault is first, and there is one where there are faults.
use Rattle.std.proofs.Common.{◌≡◌, ◌≢◌, ℕ, Bool, true, false, List, [], ◌∷◌, ◌++◌, Option, Some, None, refl, sym, subst, arith, fold, if◌then◌else◌}
use Rattle.std.proofs.lemmas.Cmp.{nat_list_cmp_total}
use Rattle.std.proofs.lemmas.List.{append-nil, append_assoc}
use Rattle.std.proofs.lemmas.List.Elements.{All-push, All-weaker, Contains-append_left, Contains-push}
use Rattle.std.proofs.lemmas.List.Sorted.{ranks_by}
use Rattle.std.specs.Cmp.{IsStrictWeakOrder}
use Rattle.std.specs.Option.{option_or}
use Rattle.feature_paths.specs.FeaturePaths.{without_files}
use Rattle.feature_paths.specs.Laws.{FirstFaultIsFirst, IsFirst, NoFaultIsPassedOver}
use Rattle.feature_paths.specs.Shown.{Faulty, faults_of, files_of, first_fault, is_before, sooner}

order : IsStrictWeakOrder (λ (f g : Faulty). is_before f.path g.path)
order = ranks_by nat_list_cmp_total (λ (f : Faulty). f.path)

never_own : (f : Faulty) → is_before f.path f.path ≡ false
never_own f = by (is_before f.path f.path) refl
  where
    by : (b : Bool) → is_before f.path f.path ≡ b → is_before f.path f.path ≡ false
    by true e = order.one_way f f e
    by false e = e

-- the first of some faults, if there are any
abbrev Holds : Option Faulty → List Faulty → Type 0
Holds None seen = seen ≡ []
Holds (Some f) seen = IsFirst f seen

-- that of one more
more : (f g : Faulty) (seen : List Faulty) → IsFirst f seen → (b : Bool) → is_before g.path f.path ≡ b
    → IsFirst (if b then g else f) (seen ++ g ∷ [])
more f g seen first true e = record {
  among = Contains-push seen g;
  least = All-push (λ h. is_before h.path g.path ≡ false) seen g
      (All-weaker (λ h. is_before h.path f.path ≡ false) (λ h. is_before h.path g.path ≡ false)
      (λ h late. order.chain h f g late (order.one_way g f e)) seen first.least)
      (never_own g);
}
more f g seen first false e = record {
  among = Contains-append_left seen (g ∷ []) f first.among;
  least = All-push (λ h. is_before h.path f.path ≡ false) seen g first.least e;
}

step : (o : Option Faulty) (g : Faulty) (seen : List Faulty) → Holds o seen → IsFirst (sooner o g) (seen ++ g ∷ [])
step None g seen none =
    subst (λ (fs : List Faulty). IsFirst g (fs ++ g ∷ [])) (sym none) (record {
      among = Contains-push [] g;
      least = All-push (λ h. is_before h.path g.path ≡ false) [] g (λ k d below. absurd (omega arith)) (never_own g);
    })
step (Some f) g seen first = more f g seen first (is_before g.path f.path) refl

abbrev next : Option Faulty → Faulty → Option Faulty
next o g = Some (sooner o g)

all : (o : Option Faulty) (seen faults : List Faulty) → Holds o seen → Holds (fold next o faults) (seen ++ faults)
all o seen [] holds = subst (Holds o) (sym (append-nil seen)) holds
all o seen (g ∷ faults) holds =
    subst (Holds (fold next (next o g) faults)) (append_assoc seen (g ∷ []) faults)
    (all (next o g) (seen ++ g ∷ []) faults (step o g seen holds))

pub first_is_first : FirstFaultIsFirst
first_is_first faults fault is = subst (λ (o : Option Faulty). Holds o faults) is (all None [] faults refl)

pub none_passed_over : NoFaultIsPassedOver
none_passed_over path looks none =
    by (first_fault (faults_of looks)) refl (files_of looks) refl none
  where
    faultless : first_fault (faults_of looks) ≡ None → faults_of looks ≡ []
    faultless e = subst (λ (o : Option Faulty). Holds o (faults_of looks)) e (all None [] (faults_of looks) refl)

    by : (o : Option Faulty) → first_fault (faults_of looks) ≡ o → (files : List (List ℕ)) → files_of looks ≡ files
        → option_or o (without_files path files) ≡ None → (faults_of looks ≡ []) × (files_of looks ≢ [])
    by (Some f) e files f_is h = absurd (cc)
    by None e [] f_is h = absurd (cc)
    by None e (file ∷ files) f_is h = (faultless e, λ empty. cc)
