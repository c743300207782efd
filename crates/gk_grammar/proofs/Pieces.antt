-- Laws of the ways to cut.
use Rattle.std.proofs.Common.{◌≡◌, Bool, true, false, List, [], ◌∷◌, ◌++◌, refl, sym, ap, subst, ◌∙◌, append_assoc, append-nil}
use Rattle.std.specs.Prelude.{IsTrue}
use Rattle.std.specs.List.{AllByRecursion}
use Rattle.gk_grammar.specs.Token.{Line, is_gap, is_comment}
use Rattle.gk_grammar.specs.Tree as tree
use Rattle.gk_grammar.specs.Grammar.{Piece, Then, Nothing, Each, IsGap, OneLine, comments_of, comment_of}

pub moved : (P : Piece) {xs ys : List Line} {cs ds : List tree.Comment} → xs ≡ ys → cs ≡ ds → P xs cs → P ys ds
moved P {xs} {ys} {cs} {ds} e f p = subst (λ (c : List tree.Comment). P ys c) f (subst (λ (x : List Line). P x cs) e p)

-- more lines at the end of the second part
pub extended : (P Q R : Piece) (more : List Line) (ds : List tree.Comment) →
    ((xs : List Line) (ys : List tree.Comment) → Q xs ys → R (xs ++ more) (ys ++ ds)) →
    (ls : List Line) (cs : List tree.Comment) → Then P Q ls cs → Then P R (ls ++ more) (cs ++ ds)
extended P Q R more ds f ls cs t = record {
  front = t.front;
  back = t.back ++ more;
  front_comments = t.front_comments;
  back_comments = t.back_comments ++ ds;
  cut = ap (λ (x : List Line). x ++ more) t.cut ∙ append_assoc t.front t.back more;
  comments = ap (λ (x : List tree.Comment). x ++ ds) t.comments ∙ append_assoc t.front_comments t.back_comments ds;
  first = t.first;
  second = f t.back t.back_comments t.second;
}

-- another second part
pub mapped : (P Q R : Piece) →
    ((xs : List Line) (ys : List tree.Comment) → Q xs ys → R xs ys) → (ls : List Line) (cs : List tree.Comment) → Then P Q ls cs → Then P R ls cs
mapped P Q R f ls cs t = record {
  front = t.front;
  back = t.back;
  front_comments = t.front_comments;
  back_comments = t.back_comments;
  cut = t.cut;
  comments = t.comments;
  first = t.first;
  second = f t.back t.back_comments t.second;
}

pub joined : (P Q : Piece) (xs ys : List Line) (cs ds : List tree.Comment) → P xs cs → Q ys ds → Then P Q (xs ++ ys) (cs ++ ds)
joined P Q xs ys cs ds p q = record { front = xs; back = ys; front_comments = cs; back_comments = ds; cut = refl; comments = refl; first = p; second = q }

-- cuts nest either way
pub to_right : (P Q R : Piece) (ls : List Line) (cs : List tree.Comment) → Then (Then P Q) R ls cs → Then P (Then Q R) ls cs
to_right P Q R ls cs t =
    let u = t.first in
    record {
      front = u.front;
      back = u.back ++ t.back;
      front_comments = u.front_comments;
      back_comments = u.back_comments ++ t.back_comments;
      cut = t.cut ∙ ap (λ (x : List Line). x ++ t.back) u.cut ∙ append_assoc u.front u.back t.back;
      comments = t.comments ∙ ap (λ (x : List tree.Comment). x ++ t.back_comments) u.comments ∙ append_assoc u.front_comments u.back_comments t.back_comments;
      first = u.first;
      second = joined Q R _ _ _ _ u.second t.second;
    }

pub to_left : (P Q R : Piece) (ls : List Line) (cs : List tree.Comment) → Then P (Then Q R) ls cs → Then (Then P Q) R ls cs
to_left P Q R ls cs t =
    let u = t.second in
    record {
      front = t.front ++ u.front;
      back = u.back;
      front_comments = t.front_comments ++ u.front_comments;
      back_comments = u.back_comments;
      cut = t.cut ∙ ap (λ (x : List Line). t.front ++ x) u.cut ∙ sym (append_assoc t.front u.front u.back);
      comments = t.comments ∙ ap (λ (x : List tree.Comment). t.front_comments ++ x) u.comments ∙ sym (append_assoc t.front_comments u.front_comments u.back_comments);
      first = joined P Q _ _ _ _ t.first u.first;
      second = u.second;
    }

-- a part of no line
pub then_nothing : (P : Piece) (ls : List Line) (cs : List tree.Comment) → P ls cs → Then P Nothing ls cs
then_nothing P ls cs p = record { front = ls; back = []; front_comments = cs; back_comments = []; cut = sym (append-nil ls); comments = sym (append-nil cs); first = p; second = (refl, refl) }

pub nothing_then : (P : Piece) (ls : List Line) (cs : List tree.Comment) → Then Nothing P ls cs → P ls cs
nothing_then P ls cs t =
    moved P
    (sym (t.cut ∙ ap (λ (x : List Line). x ++ t.back) t.first.0))
    (sym (t.comments ∙ ap (λ (x : List tree.Comment). x ++ t.back_comments) t.first.1)) t.second

pub only_first : (P : Piece) (ls : List Line) (cs : List tree.Comment) → Then P Nothing ls cs → P ls cs
only_first P ls cs u = moved P (sym (u.cut ∙ ap (λ (b : List Line). u.front ++ b) u.second.0 ∙ append-nil u.front)) (sym (u.comments ∙ ap (λ (b : List tree.Comment). u.front_comments ++ b) u.second.1 ∙ append-nil u.front_comments)) u.first

-- a second part of no line
pub then_empty : (P Q : Piece) (ls : List Line) (cs : List tree.Comment) → P ls cs → Q [] [] → Then P Q ls cs
then_empty P Q ls cs p q = record { front = ls; back = []; front_comments = cs; back_comments = []; cut = sym (append-nil ls); comments = sym (append-nil cs); first = p; second = q }

-- a line that adds no comment
pub with_line : (P Q : Piece) (l : Line) → Q (l ∷ []) [] → (ls : List Line) (cs : List tree.Comment) → P ls cs → Then P Q (ls ++ l ∷ []) cs
with_line P Q l q ls cs p = record { front = ls; back = l ∷ []; front_comments = cs; back_comments = []; cut = refl; comments = sym (append-nil cs); first = p; second = q }

-- a line at the end of the second part that adds no comment
pub lengthened : (P Q R : Piece) (l : Line) →
    ((xs : List Line) (ys : List tree.Comment) → Q xs ys → R (xs ++ l ∷ []) (ys ++ [])) →
    (ls : List Line) (cs : List tree.Comment) → Then P Q ls cs → Then P R (ls ++ l ∷ []) cs
lengthened P Q R l f ls cs t = moved (Then P R) refl (append-nil cs) (extended P Q R (l ∷ []) [] f ls cs t)

-- one more at the end
pub each_more : {A : Type 0} (P : A → Piece) (xs : List A) (x : A) (ls : List Line) (cs : List tree.Comment) →
    Then (Each P xs) (P x) ls cs → Each P (xs ++ x ∷ []) ls cs
each_more P [] x ls cs t = then_nothing (P x) ls cs (nothing_then (P x) ls cs t)
each_more P (y ∷ ys) x ls cs t = mapped (P y) (Then (Each P ys) (P x)) (Each P (ys ++ x ∷ [])) (λ u v w. each_more P ys x u v w) ls cs (to_right (P y) (Each P ys) (P x) ls cs t)

-- those of two lists
pub each_both : {A : Type 0} (P : A → Piece) (xs ys : List A) (ls : List Line) (cs : List tree.Comment) →
    Then (Each P xs) (Each P ys) ls cs → Each P (xs ++ ys) ls cs
each_both P [] ys ls cs t = nothing_then (Each P ys) ls cs t
each_both P (x ∷ xs) ys ls cs t = mapped (P x) (Then (Each P xs) (Each P ys)) (Each P (xs ++ ys)) (λ u v w. each_both P xs ys u v w) ls cs (to_right (P x) (Each P xs) (Each P ys) ls cs t)

pub each_apart : {A : Type 0} (P : A → Piece) (xs ys : List A) (ls : List Line) (cs : List tree.Comment) →
    Each P (xs ++ ys) ls cs → Then (Each P xs) (Each P ys) ls cs
each_apart P [] ys ls cs t = record { front = []; back = ls; front_comments = []; back_comments = cs; cut = refl; comments = refl; first = (refl, refl); second = t }
each_apart P (x ∷ xs) ys ls cs t = to_left (P x) (Each P xs) (Each P ys) ls cs (mapped (P x) (Each P (xs ++ ys)) (Then (Each P xs) (Each P ys)) (λ u v w. each_apart P xs ys u v w) ls cs t)

-- ---- comments and blank lines

pub comments_of-append : (xs ys : List Line) → comments_of (xs ++ ys) ≡ comments_of xs ++ comments_of ys
comments_of-append [] ys = refl
comments_of-append (x ∷ xs) ys = go (is_comment x) refl (comments_of-append xs ys)
  where
    go : (b : Bool) → is_comment x ≡ b → comments_of (xs ++ ys) ≡ comments_of xs ++ comments_of ys → comments_of ((x ∷ xs) ++ ys) ≡ comments_of (x ∷ xs) ++ comments_of ys
    go true e h = rw e (ap (λ (r : List tree.Comment). comment_of x ∷ r) h)
    go false e h = rw e h

-- what takes a comment or a blank line at its end
abbrev pub Takes : Piece → Piece → Type 0
Takes P Q = (ls : List Line) (cs : List tree.Comment) (l : Line) → IsTrue (is_gap l) → P ls cs → Q (ls ++ l ∷ []) (cs ++ comments_of (l ∷ []))

pub all_more : {A : Type 0} (P : A → Type 0) (xs : List A) (x : A) → AllByRecursion P xs → P x → AllByRecursion P (xs ++ x ∷ [])
all_more P [] x a p = (p, tt)
all_more P (y ∷ ys) x a p = (a.0, all_more P ys x a.1 p)

pub gap_takes : Takes IsGap IsGap
gap_takes ls cs l g p = (all_more (λ x. IsTrue (is_gap x)) ls l p.0 g, ap (λ (c : List tree.Comment). c ++ comments_of (l ∷ [])) p.1 ∙ sym (comments_of-append ls (l ∷ [])))

pub one_line_takes : (P : Line → Type 0) → Takes (OneLine P) (OneLine P)
one_line_takes P [] cs l g p = absurd p
one_line_takes P (x ∷ gap) cs l g p = (p.0, gap_takes gap cs l g p.1)

pub then_takes : (P Q : Piece) → Takes Q Q → Takes (Then P Q) (Then P Q)
then_takes P Q t ls cs l g p = extended P Q Q (l ∷ []) (comments_of (l ∷ [])) (λ xs ys q. t xs ys l g q) ls cs p

-- ---- steps

pub each_takes : {A : Type 0} (P : A → Piece) → ((x : A) → Takes (P x) (P x)) → (x : A) (xs : List A) → Takes (Each P (x ∷ xs)) (Each P (x ∷ xs))
each_takes P t x [] ls cs l g p = then_nothing (P x) _ _ (t x ls cs l g (only_first (P x) ls cs p))
each_takes P t x (y ∷ ys) ls cs l g p = extended (P x) (Each P (y ∷ ys)) (Each P (y ∷ ys)) (l ∷ []) (comments_of (l ∷ [])) (λ us vs q. each_takes P t y ys us vs l g q) ls cs p
