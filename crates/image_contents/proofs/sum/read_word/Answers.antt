use Rattle.std.proofs.Common.{◌≡◌, ℕ, ◌+◌, List, Ok, true, false, sym, subst}
use Rattle.ssd_formats.specs.Fields.{bytes_field}
use Rattle.ssd_formats.specs.ImageContents.{is_page_word}
use Rattle.ssd_formats.specs.ImageHead.{Head, head_of, matrix_of_head}
use Rattle.ssd_geo.specs.BaseMatrix.{BaseMatrix}
use Rattle.ssd_geo.specs.Coding.{word_bytes_in}
use Rattle.image_file.specs.Gives.{rest_at}
use Rattle.image_contents.proofs.Numbers.{word_fails, word_passes}
use Rattle.image_contents.specs.Parts.{is_word_of}
use Rattle.image_contents.proofs.sum.read_word.Goals as goal

pub returns-then-has_codewords-clause-read : goal.returns-then-has_codewords-clause-read
returns-then-has_codewords-clause-read g c =
    let head : Head = head_of c.args.head.now in
    let word : List ℕ = c.read_bytes.new.into in
    let before = g.S.Source.left c.args.input.now in
    let after = g.S.Source.left c.read_bytes.new.input in
    let code_is : c.in-Ok.code ≡ matrix_of_head head = c.in-Ok.ensures in
    let right : is_page_word head word ≡ true =
    subst (λ (m : BaseMatrix). is_word_of m head.sizes word ≡ true) code_is (sym c.if-has_codewords.ensures) in
    record {
      given = λ told.
          let read = c.in_ok-read_bytes.ensures.read.given told in (
            read.0,
            word_passes head (rest_at c.args.place before) (rest_at (c.args.place + word_bytes_in c.args.head.now.shape) after) word
                (subst (λ (n : ℕ). bytes_field n (rest_at c.args.place before) ≡ Ok (word, rest_at (c.args.place + n) after)) c.requires.sum read.1) right,
          );
      never_fell = c.in_ok-read_bytes.ensures.read.never_fell;
      cause = c.in_ok-read_bytes.ensures.read.cause;
    }

pub returns-then-has_codewords-clause-word : goal.returns-then-has_codewords-clause-word
returns-then-has_codewords-clause-word g c =
    let head : Head = head_of c.args.head.now in
    let word : List ℕ = c.read_bytes.new.into in
    let code_is : c.in-Ok.code ≡ matrix_of_head head = c.in-Ok.ensures in
    subst (λ (m : BaseMatrix). is_word_of m head.sizes word ≡ true) code_is (sym c.if-has_codewords.ensures)

pub returns-clause-read : goal.returns-clause-read
returns-clause-read g c =
    let head : Head = head_of c.args.head.now in
    let word : List ℕ = c.read_bytes.new.into in
    let before = g.S.Source.left c.args.input.now in
    let after = g.S.Source.left c.read_bytes.new.input in
    let code_is : c.in-Ok.code ≡ matrix_of_head head = c.in-Ok.ensures in
    let wrong : is_page_word head word ≡ false =
    subst (λ (m : BaseMatrix). is_word_of m head.sizes word ≡ false) code_is (sym c.if-has_codewords.ensures) in
    record {
      given = λ told.
          let read = c.in_ok-read_bytes.ensures.read.given told in
          word_fails head (rest_at c.args.place before) (rest_at (c.args.place + word_bytes_in c.args.head.now.shape) after) word
          (subst (λ (n : ℕ). bytes_field n (rest_at c.args.place before) ≡ Ok (word, rest_at (c.args.place + n) after)) c.requires.sum read.1) wrong;
      never_fell = c.in_ok-read_bytes.ensures.read.never_fell;
      cause = c.in_ok-read_bytes.ensures.read.cause;
    }
