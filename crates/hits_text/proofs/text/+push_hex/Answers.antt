-- The digits before the last are pushed first, then the last.
use Rattle.std.proofs.Common.{sym, ap, ◌∙◌, List, [], ◌∷◌, ◌++◌, ℕ, ◌-◌, ◌/◌, length, length-append, append-nil, arith}
use Rattle.hits_text.specs.Text.{hex_digits}
use Rattle.hits_text.proofs.Putting.{put-more}
use Rattle.hits_text.proofs.Numbers.{hex-none, hex-more, length-hex}
use Rattle.hits_text.proofs.text.+push_hex.Goals as goal

pub returns-then-digits-eq0 : goal.returns-then-digits-eq0
returns-then-digits-eq0 g t c = sym (ap (λ (l : List ℕ). c.args.text.now.items ++ l) (hex-none c.args.digits c.args.n c.if-digits-eq0.true) ∙ append-nil c.args.text.now.items)

pub push-requires : goal.push-requires
push-requires g t c =
    let a = c.args in
    omega (arith, c.requires, c.if-digits-eq0.false, ap length c.push_hex.ensures, length-append a.text.now.items (hex_digits (a.digits - 1) (a.n / 16)), length-hex (a.digits - 1) (a.n / 16))

pub returns : goal.returns
returns g t c =
    let a = c.args in
    put-more a.text.now.items (hex_digits (a.digits - 1) (a.n / 16)) (c.digit.result ∷ []) _ _ c.push_hex.ensures c.push.ensures.items
    ∙ ap (λ (d : ℕ). a.text.now.items ++ (hex_digits (a.digits - 1) (a.n / 16) ++ (d ∷ []))) c.digit.ensures
    ∙ ap (λ (l : List ℕ). a.text.now.items ++ l) (sym (hex-more a.digits a.n c.if-digits-eq0.false))
