-- A worked table: an LSDA at offset 0 of the image, function start 4096, and a tree in which 3 has the parent 2, and 2 has 1.
use Rattle.std.specs.Prelude.{◌≡◌, ℕ, true, false, List, [], ◌∷◌, pos, negsuc, Ok}
use Rattle.personality.specs.declared.fault.Cause.TheVariants.{TooLarge}
use Rattle.personality.specs.declared.verdict.Verdict.{Verdict}
use Rattle.personality.specs.declared.verdict.Verdict.TheVariants.{Nothing, Cleanup, Handler, Terminate}
use Rattle.languages.specs.Types.{tree_class, caught_in}
use Rattle.numbers.specs.Numbers.{leb128_at}
use Rattle.numbers.specs.Reading.{broken}
use Rattle.lsda.specs.Verdict.{leaf_verdict}
use Rattle.lsda.specs.declared.header.Layout.TheVariants.{Lsda}

abbrev table : List ℕ
table = 0xff ∷ 0x03 ∷ 0x10 ∷ 0x01 ∷ 0x08 ∷ 0x00 ∷ 0x10 ∷ 0x20 ∷ 0x01 ∷ 0x10 ∷ 0x10 ∷ 0x30 ∷ 0x00 ∷ 0x01 ∷ 0x00 ∷ 0x02 ∷ 0x00 ∷ 0x00 ∷ 0x00 ∷ []

-- the verdict for a native exception of a type, at a place; what the language catches is given by `caught_in`
abbrev pub asked : ℕ → ℕ → Verdict
asked type place =
    leaf_verdict tree_class (caught_in (0 ∷ 1 ∷ 2 ∷ [])) (record { layout = Lsda; start = 0; length = 19; function = 4096; language = tt {0} }) table
    (record { unit = 0; place = place; class = tree_class; thrown = type; forced = false })

pub record WorkedCases : Type 0 where
  -- ff ff ff ff 0f unsigned; 80 80 80 80 10; ff 7e signed
  pub largest : leb128_at (0xff ∷ 0xff ∷ 0xff ∷ 0xff ∷ 0x0f ∷ []) false 0 ≡ Ok (record { value = pos 4294967295; next = 5 })
  pub too_large : leb128_at (0x80 ∷ 0x80 ∷ 0x80 ∷ 0x80 ∷ 0x10 ∷ []) false 0 ≡ broken TooLarge 0
  pub negative : leb128_at (0xff ∷ 0x7e ∷ []) true 0 ≡ Ok (record { value = negsuc 128; next = 2 })
  -- the places at and around both ends of both records
  pub before_all : asked 3 4095 ≡ Terminate
  pub first_begins : asked 3 4096 ≡ Handler 4128 (pos 1)
  pub first_ends : asked 3 4111 ≡ Handler 4128 (pos 1)
  pub second_begins : asked 3 4112 ≡ Cleanup 4144
  pub second_ends : asked 3 4127 ≡ Cleanup 4144
  pub after_all : asked 3 4128 ≡ Terminate
  -- type 1 is no descendant of type 2
  pub not_caught : asked 1 4100 ≡ Nothing
