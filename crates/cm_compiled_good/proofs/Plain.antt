-- What is written of pickles is plain.
use Rattle.std.proofs.Common.{◌≡◌, ℕ, zero, suc, ◌+◌, ◌/◌, ◌%◌, ◌==◌, ◌<◌, nat_lt, List, [], ◌∷◌, Bool, true, false, cond, length, map, Option, Some, None, IsUtf8, decimal, refl, arith}
use Rattle.std.specs.List.{AllByRecursion}
use Rattle.std.specs.Fmt.{digits, digits_onto, digit_glyph}
use Rattle.std.proofs.lemmas.Bool.Decides.{nat_tests}
use Rattle.json.proofs.Printed.Utf8.{IsUtf8-are_ascii, are_ascii}
use Rattle.serde_json.specs.Data.{Data}
use Rattle.serde_json.specs.View.{items_of}
use Rattle.gk_pickle.specs.declared.pickles.StepType.{StepType}
use Rattle.gk_pickle.specs.declared.pickles.StepType.TheVariants as kind
use Rattle.gk_pickle.specs.declared.pickles.PickleTag.{PickleTag}
use Rattle.gk_pickle.specs.declared.pickles.PickleDocString.{PickleDocString}
use Rattle.gk_pickle.specs.declared.pickles.PickleArgument.{PickleArgument}
use Rattle.gk_pickle.specs.declared.pickles.PickleArgument.TheVariants.{Table, Text}
use Rattle.gk_pickle.specs.declared.pickles.PickleStep.{PickleStep}
use Rattle.gk_pickle.specs.declared.pickles.Pickle.{Pickle}
use Rattle.cm_messages.specs.Layout.{id_data}
use Rattle.cm_messages.specs.SourceLayout.{source_data}
use Rattle.cm_messages.specs.PickleLayout.{type_word, pickle_tag_data, pickle_cell_data, pickle_row_data, pickle_doc_string_data, pickle_step_data, pickle_steps_data, pickle_data}
use Rattle.cm_read_back.specs.Values.{IsPlain, ItemsArePlain}
use Rattle.cm_compiled_good.proofs.Fine.{clean, TagFine, MediaFine, ArgumentFine, StepFine, PickleFine}

-- ---- ids

-- a digit is ASCII
glyph_ascii : (n : ℕ) → nat_lt (digit_glyph false (n % 10)) 128 ≡ true
glyph_ascii n =
    let small : nat_lt (n % 10) 10 ≡ true = grind (arith, nat_tests) in
    rw small (let few : n % 10 < 10 = omega arith in grind (arith, nat_tests))

digits_ascii : (k n : ℕ) (acc : List ℕ) → are_ascii acc ≡ true → are_ascii (digits_onto k 10 false n acc) ≡ true
digits_ascii zero n acc h = h
digits_ascii (suc k) n acc h = go (n / 10 == 0) (digits_ascii k (n / 10) (digit_glyph false (n % 10) ∷ acc) more)
  where
    more : are_ascii (digit_glyph false (n % 10) ∷ acc) ≡ true
    more = rw (glyph_ascii n, h) refl

    go : (b : Bool) → are_ascii (digits_onto k 10 false (n / 10) (digit_glyph false (n % 10) ∷ acc)) ≡ true
        → are_ascii (cond b (digit_glyph false (n % 10) ∷ acc) (digits_onto k 10 false (n / 10) (digit_glyph false (n % 10) ∷ acc))) ≡ true
    go true rest = more
    go false rest = rest

pub decimal_utf8 : (n : ℕ) → IsUtf8 (decimal n)
unfolding digits
decimal_utf8 n = IsUtf8-are_ascii (decimal n) (digits_ascii 64 n [] refl)

-- ---- lists

pub items_plain : {A : Type 0} (P : A → Type 0) (f : A → Data) → ((x : A) → P x → IsPlain (f x)) → (xs : List A) → AllByRecursion P xs → ItemsArePlain (items_of (map f xs))
items_plain P f one [] h = tt
items_plain P f one (x ∷ xs) h = (one x h.0, items_plain P f one xs h.1)

pub ids_plain : (ns : List ℕ) → ItemsArePlain (items_of (map id_data ns))
ids_plain [] = tt
ids_plain (n ∷ ns) = (decimal_utf8 n, ids_plain ns)

-- ---- pickles

tag_plain : (t : PickleTag) → TagFine clean t → IsPlain (pickle_tag_data t)
tag_plain t h = (IsUtf8-are_ascii _ refl, decimal_utf8 t.node, (IsUtf8-are_ascii _ refl, h.1, tt))

cell_plain : (c : List ℕ) → IsUtf8 c → IsPlain (pickle_cell_data c)
cell_plain c h = (IsUtf8-are_ascii _ refl, h, tt)

row_plain : (cs : List (List ℕ)) → AllByRecursion IsUtf8 cs → IsPlain (pickle_row_data cs)
row_plain cs h = (IsUtf8-are_ascii _ refl, items_plain IsUtf8 pickle_cell_data cell_plain cs h, tt)

doc_string_plain : (d : PickleDocString) (m : Option (List ℕ)) → MediaFine clean m → IsUtf8 d.content → IsPlain (pickle_doc_string_data (record d { media = m }))
doc_string_plain d None h k = (IsUtf8-are_ascii _ refl, k, tt)
doc_string_plain d (Some []) h k = absurd h
doc_string_plain d (Some (b ∷ bs)) h k = (IsUtf8-are_ascii _ refl, k, (IsUtf8-are_ascii _ refl, h, tt))

word_utf8 : (k : StepType) → IsUtf8 (type_word k)
word_utf8 kind.Unknown = IsUtf8-are_ascii _ refl
word_utf8 kind.Context = IsUtf8-are_ascii _ refl
word_utf8 kind.Action = IsUtf8-are_ascii _ refl
word_utf8 kind.Outcome = IsUtf8-are_ascii _ refl

step_plain : (id : ℕ) (s : PickleStep) (a : Option PickleArgument) → IsUtf8 s.text → ArgumentFine clean a → IsPlain (pickle_step_data id (record s { argument = a }))
step_plain id s None h k =
    (IsUtf8-are_ascii _ refl, ids_plain s.nodes, (IsUtf8-are_ascii _ refl, decimal_utf8 id, (IsUtf8-are_ascii _ refl, h, (IsUtf8-are_ascii _ refl, word_utf8 s.kind, tt))))
step_plain id s (Some (Table rows)) h k = (
  IsUtf8-are_ascii _ refl,
  (IsUtf8-are_ascii _ refl, (IsUtf8-are_ascii _ refl, items_plain (AllByRecursion IsUtf8) pickle_row_data row_plain rows k, tt), tt),
  (IsUtf8-are_ascii _ refl, ids_plain s.nodes, (IsUtf8-are_ascii _ refl, decimal_utf8 id, (IsUtf8-are_ascii _ refl, h, (IsUtf8-are_ascii _ refl, word_utf8 s.kind, tt)))),
)
step_plain id s (Some (Text d)) h k = (
  IsUtf8-are_ascii _ refl,
  (IsUtf8-are_ascii _ refl, doc_string_plain d d.media k.0 k.1, tt),
  (IsUtf8-are_ascii _ refl, ids_plain s.nodes, (IsUtf8-are_ascii _ refl, decimal_utf8 id, (IsUtf8-are_ascii _ refl, h, (IsUtf8-are_ascii _ refl, word_utf8 s.kind, tt)))),
)

steps_plain : (id : ℕ) (ss : List PickleStep) → AllByRecursion (StepFine clean) ss → ItemsArePlain (items_of (pickle_steps_data id ss))
steps_plain id [] h = tt
steps_plain id (s ∷ ss) h = let here = h.0 in (step_plain id s s.argument here.0 here.2, steps_plain (id + 1) ss h.1)

pub pickle_plain : (uri : List ℕ) (id : ℕ) (p : Pickle) → IsUtf8 uri → PickleFine clean p → IsPlain (pickle_data uri id p)
unfolding pickle_data
pickle_plain uri id p u h = (
  IsUtf8-are_ascii _ refl,
  (
    IsUtf8-are_ascii _ refl,
    ids_plain p.nodes,
    (
      IsUtf8-are_ascii _ refl,
      decimal_utf8 (id + length p.steps),
      (
        IsUtf8-are_ascii _ refl,
        IsUtf8-are_ascii _ refl,
        (
          IsUtf8-are_ascii _ refl,
          h.0,
          (
            IsUtf8-are_ascii _ refl,
            steps_plain id p.steps h.3,
            (IsUtf8-are_ascii _ refl, items_plain (TagFine clean) pickle_tag_data tag_plain p.tags h.2, (IsUtf8-are_ascii _ refl, u, tt)),
          ),
        ),
      ),
    ),
  ),
  tt,
)

pub source_plain : (uri text : List ℕ) → IsUtf8 uri → IsUtf8 text → IsPlain (source_data uri text)
unfolding source_data
source_plain uri text u t =
    (IsUtf8-are_ascii _ refl, (IsUtf8-are_ascii _ refl, t, (IsUtf8-are_ascii _ refl, IsUtf8-are_ascii _ refl, (IsUtf8-are_ascii _ refl, u, tt))), tt)
