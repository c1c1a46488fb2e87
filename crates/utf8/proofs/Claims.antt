-- The proof of each statement of specs/Theorems, under the statement's name.
use mathlib.Core.Path.{refl, ap, ◌∙◌}
use mathlib.Core.Logic.{⊎_elim}
use Rattle.utf8.specs.Rfc3629.{
  utf8_1,
  utf8_2,
  utf8_3,
  utf8_4,
  begun_2,
  begun_3,
  subpart,
  read_four,
  read_char,
  fold_step,
  fold_chars,
  chars,
  valid_up_to_of,
  encode,
  encode_all,
}
use Rattle.utf8.specs.Subparts.{unfinished}
use Rattle.utf8.specs.Theorems.{
  CharsAreScalar,
  DecodeEncode,
  LongestBeginning,
  ReadCharIff,
  ReadEnd,
  Rfc3629Examples,
  SubpartIsMaximal,
  UnfinishedMeans,
  UnfinishedRest,
  WellFormedIffEncoding,
  WellFormedIffWhole,
}
use Rattle.utf8.proofs.Fronts.{read_char_nil}
use Rattle.utf8.proofs.Encoding.{end_empty}
use Rattle.utf8.proofs.Texts.{chars-encode_all-alone, encode_all-chars, chars-all_scalar, valid_up_to_le, read_char-iff}
use Rattle.utf8.proofs.Grammar.{well_formed_whole, whole_well_formed, encoding_well_formed, longest_well_formed, none_longer}
use Rattle.utf8.proofs.Completions.{goes_on, more_bytes}
use Rattle.utf8.proofs.Subparts.{bad-maximal, maximal-reads}
use Rattle.utf8.proofs.Unfinished.{can_go_on, is_unfinished}

pub decode_encode : DecodeEncode
unfolding DecodeEncode
decode_encode = chars-encode_all-alone

pub well_formed_iff_encoding : WellFormedIffEncoding
unfolding WellFormedIffEncoding
well_formed_iff_encoding s = (λ w. encode_all-chars s (well_formed_whole w), encoding_well_formed s)

pub well_formed_iff_whole : WellFormedIffWhole
unfolding WellFormedIffWhole
well_formed_iff_whole s = (well_formed_whole, whole_well_formed s)

pub longest_beginning : LongestBeginning
unfolding LongestBeginning
longest_beginning s = (valid_up_to_le s, longest_well_formed s, none_longer s)

pub read_char_iff : ReadCharIff
unfolding ReadCharIff
read_char_iff = read_char-iff

pub chars_are_scalar : CharsAreScalar
unfolding CharsAreScalar
chars_are_scalar = chars-all_scalar

pub read_end : ReadEnd
unfolding ReadEnd
read_end s = (end_empty s, λ e. ap read_char e ∙ read_char_nil)

pub subpart_is_maximal : SubpartIsMaximal
unfolding SubpartIsMaximal
subpart_is_maximal s n = (bad-maximal s n, maximal-reads s n)

pub unfinished_means : UnfinishedMeans
unfolding UnfinishedMeans unfinished
unfinished_means u = (goes_on u, ⊎_elim (λ e. ap unfinished e) (λ g. more_bytes u g.0 g.1 g.2))

pub unfinished_rest : UnfinishedRest
unfolding UnfinishedRest
unfinished_rest s = (can_go_on s, λ g. is_unfinished s g.0 g.1)

pub rfc3629_examples : Rfc3629Examples
unfolding Rfc3629Examples utf8_1 utf8_2 utf8_3 utf8_4 begun_2 begun_3 subpart read_four read_char fold_step fold_chars chars valid_up_to_of
    encode encode_all
rfc3629_examples = (refl, refl, refl, refl, refl, refl)
