-- Tests that tell what is equal, of lists and options too.
use Rattle.std.proofs.Common.{◌≡◌, refl, sym, ap, ◌∙◌, List, [], ◌∷◌, Option, Some, None, true, Bool, ◌&&◌, map}
use Rattle.std.specs.Prelude.{option_map}
use Rattle.std.specs.Str.{bytes_eq}
use Rattle.std.proofs.lemmas.Iterator.Adapters.{option_map_id}
use Rattle.std.proofs.lemmas.List.{map-id}
use Rattle.cm_stream.specs.Texts.{same_list, same_option, same_texts}
use Rattle.cm_stream.proofs.Lists.{and_true}
use Rattle.cm_stream.proofs.Found.{bytes_are, bytes_same}

-- the test passes exactly where what is left of the first is what is made of the second
pub record Tells {A B C : Type 0} (same : A → B → Bool) (left : A → C) (made : B → C) : Type 0 where
  pub is : (a : A) (b : B) → same a b ≡ true → left a ≡ made b
  pub by : (a : A) (b : B) → left a ≡ made b → same a b ≡ true

pub lists : {A B C : Type 0} {same : A → B → Bool} {left : A → C} {made : B → C} → Tells same left made → Tells (same_list same) (map left) (map made)
lists {A} {B} {C} {same} {left} {made} t = record { is = are; by = back }
  where
    are : (xs : List A) (ys : List B) → same_list same xs ys ≡ true → map left xs ≡ map made ys
    are [] [] h = refl
    are [] (y ∷ ys) h = cc
    are (x ∷ xs) [] h = cc
    are (x ∷ xs) (y ∷ ys) h =
        let k = and_true (same x y) (same_list same xs ys) h in
        let first = t.is x y k.0 in
        let rest = are xs ys k.1 in
        λ i. first i ∷ rest i

    back : (xs : List A) (ys : List B) → map left xs ≡ map made ys → same_list same xs ys ≡ true
    back [] [] e = refl
    back [] (y ∷ ys) e = cc
    back (x ∷ xs) [] e = cc
    back (x ∷ xs) (y ∷ ys) e =
        let first : left x ≡ made y = cc in
        let rest : map left xs ≡ map made ys = cc in
        rw (t.by x y first, back xs ys rest) refl

pub options : {A B C : Type 0} {same : A → B → Bool} {left : A → C} {made : B → C} → Tells same left made → Tells (same_option same) (option_map left) (option_map made)
options {A} {B} {C} {same} {left} {made} t = record { is = are; by = back }
  where
    are : (xs : Option A) (ys : Option B) → same_option same xs ys ≡ true → option_map left xs ≡ option_map made ys
    are None None h = refl
    are None (Some y) h = cc
    are (Some x) None h = cc
    are (Some x) (Some y) h = ap Some (t.is x y h)

    back : (xs : Option A) (ys : Option B) → option_map left xs ≡ option_map made ys → same_option same xs ys ≡ true
    back None None e = refl
    back None (Some y) e = cc
    back (Some x) None e = cc
    back (Some x) (Some y) e = let first : left x ≡ made y = cc in t.by x y first

-- where the first is left whole
pub whole_lists : {A B : Type 0} {same : A → B → Bool} {made : B → A} → Tells same (λ x. x) made → Tells (same_list same) (λ xs. xs) (map made)
whole_lists t = record { is = λ xs ys h. sym (map-id xs) ∙ (lists t).is xs ys h; by = λ xs ys e. (lists t).by xs ys (map-id xs ∙ e) }

pub whole_options : {A B : Type 0} {same : A → B → Bool} {made : B → A} → Tells same (λ x. x) made → Tells (same_option same) (λ o. o) (option_map made)
whole_options t = record { is = λ xs ys h. sym (option_map_id xs) ∙ (options t).is xs ys h; by = λ xs ys e. (options t).by xs ys (option_map_id xs ∙ e) }

pub texts : Tells bytes_eq (λ t. t) (λ t. t)
texts = record { is = bytes_are; by = λ a b e. ap (bytes_eq a) (sym e) ∙ bytes_same a }

pub text_lists : Tells same_texts (λ ts. ts) (λ ts. ts)
text_lists = record { is = λ xs ys h. (whole_lists texts).is xs ys h ∙ map-id ys; by = λ xs ys e. (whole_lists texts).by xs ys (e ∙ sym (map-id ys)) }

pub maybe_texts : Tells (same_option bytes_eq) (λ o. o) (λ o. o)
maybe_texts = record { is = λ xs ys h. (whole_options texts).is xs ys h ∙ option_map_id ys; by = λ xs ys e. (whole_options texts).by xs ys (e ∙ sym (option_map_id ys)) }

-- ---- tests one after another

pub three : (a b c : Bool) → (a && b && c) ≡ true → (a ≡ true) × (b ≡ true) × (c ≡ true)
three a b c h = let x = and_true (a && b) c h in let y = and_true a b x.0 in (y.0, y.1, x.1)

pub four : (a b c d : Bool) → (a && b && c && d) ≡ true → (a ≡ true) × (b ≡ true) × (c ≡ true) × (d ≡ true)
four a b c d h = let x = and_true (a && b && c) d h in let y = three a b c x.0 in (y.0, y.1, y.2, x.1)

pub five : (a b c d e : Bool) → (a && b && c && d && e) ≡ true → (a ≡ true) × (b ≡ true) × (c ≡ true) × (d ≡ true) × (e ≡ true)
five a b c d e h = let x = and_true (a && b && c && d) e h in let y = four a b c d x.0 in (y.0, y.1, y.2, y.3, x.1)

pub six : (a b c d e f : Bool) → (a && b && c && d && e && f) ≡ true → (a ≡ true) × (b ≡ true) × (c ≡ true) × (d ≡ true) × (e ≡ true) × (f ≡ true)
six a b c d e f h = let x = and_true (a && b && c && d && e) f h in let y = five a b c d e x.0 in (y.0, y.1, y.2, y.3, y.4, x.1)

pub eight : (a b c d e f g k : Bool) → (a && b && c && d && e && f && g && k) ≡ true → (a ≡ true) × (b ≡ true) × (c ≡ true) × (d ≡ true) × (e ≡ true) × (f ≡ true) × (g ≡ true) × (k ≡ true)
eight a b c d e f g k h =
    let x = and_true (a && b && c && d && e && f && g) k h in
    let y = and_true (a && b && c && d && e && f) g x.0 in
    let z = six a b c d e f y.0 in
    (z.0, z.1, z.2, z.3, z.4, z.5, y.1, x.1)
