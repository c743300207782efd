-- The tags that the values of a command give.
use Rattle.std.proofs.Common.{◌≡◌, ◌∙◌, ◌&&◌, Bool, true, false, List, [], ◌∷◌, Option, Some, None, refl, ap, sym, map, option_map}
use Rattle.std.specs.List.{list_all}
use Rattle.std.specs.Borrow.{Bor}
use Rattle.clap.specs.Words.{Text}
use Rattle.ck_command_line.specs.CommandLine.{is_tag, tags_allowed}

-- the texts behind references
abbrev pub texts_of : List (Bor Text) → List Text
texts_of = map (λ t. t.now)

abbrev pub Tagged : Type 0
Tagged = Option (Bor (List (Bor Text)))

-- what the option's texts are
abbrev pub Reads : Tagged → Option (List Text) → Type 0
Reads found texts = option_map (λ ts. texts_of ts.now) found ≡ texts

pub no_tags : (allows_unrun : Bool) (found : Tagged) (texts : Option (List Text)) (tags : List (Bor Text)) → Reads found texts → found ≡ None → tags ≡ []
    → tags_allowed allows_unrun texts ≡ Some (texts_of tags)
no_tags allows_unrun found texts tags reads none empty =
    ap (tags_allowed allows_unrun) (sym reads ∙ ap (option_map (λ ts. texts_of ts.now)) none) ∙ ap (λ ts. Some (texts_of ts)) (sym empty)

some_texts : (found : Tagged) (texts : Option (List Text)) (given : Bor (List (Bor Text))) → Reads found texts → found ≡ Some given → texts ≡ Some (texts_of given.now)
some_texts found texts given reads is = sym reads ∙ ap (option_map (λ ts. texts_of ts.now)) is

pub both_unrun : (allows_unrun : Bool) (found : Tagged) (texts : Option (List Text)) (given : Bor (List (Bor Text))) → Reads found texts → found ≡ Some given → allows_unrun ≡ true
    → tags_allowed allows_unrun texts ≡ None
both_unrun allows_unrun found texts given reads is allowed = rw (allowed, some_texts found texts given reads is) refl

each_is_tag : (texts : List (Bor Text)) → list_all is_tag (texts_of texts) ≡ list_all (λ t. is_tag t.now) texts
each_is_tag [] = refl
each_is_tag (t ∷ ts) = ap (λ b. is_tag t.now && b) (each_is_tag ts)

pub no_tag : (allows_unrun : Bool) (found : Tagged) (texts : Option (List Text)) (given : Bor (List (Bor Text))) → Reads found texts → found ≡ Some given → allows_unrun ≡ false
    → list_all (λ t. is_tag t.now) given.now ≡ false → tags_allowed allows_unrun texts ≡ None
no_tag allows_unrun found texts given reads is allowed wrong = rw (allowed, some_texts found texts given reads is, each_is_tag given.now, wrong) refl

pub all_tags : (allows_unrun : Bool) (found : Tagged) (texts : Option (List Text)) (given : Bor (List (Bor Text))) (tags : List (Bor Text)) → Reads found texts → found ≡ Some given → allows_unrun ≡ false
    → list_all (λ t. is_tag t.now) given.now ≡ true → tags ≡ given.now → tags_allowed allows_unrun texts ≡ Some (texts_of tags)
all_tags allows_unrun found texts given tags reads is allowed right same = rw (allowed, some_texts found texts given reads is, each_is_tag given.now, right, same) refl
