use Rattle.std.proofs.Common.{◌≡◌, ◌∙◌, ℕ, List, ◌++◌, length, ap, sym, subst, append_assoc}
use Rattle.std.specs.Prelude.{codes}
use Rattle.std.specs.Fmt.{decimal, HasWritten}
use Rattle.amqp_promise.specs.Errors.{state_name}
use Rattle.amqp_answers.specs.Seen.{made_in}
use Rattle.amqp_rules.specs.Queries.{session_debug}
use Rattle.amqp_session.proofs.session.SessionDebug.fmt.Goals as goal

-- what is written, piece before piece
abbrev pieces : List ℕ → ℕ → ℕ → List ℕ
pieces name listed made =
    codes "Session { state: " ++ (name ++ (codes ", channels: " ++ (decimal listed ++ (codes ", promises: " ++ (decimal made ++ codes ", .. }")))))

regrouped : (a b c d e f g : List ℕ) → ((((((a ++ b) ++ c) ++ d) ++ e) ++ f) ++ g) ≡ a ++ (b ++ (c ++ (d ++ (e ++ (f ++ g)))))
regrouped a b c d e f g =
    append_assoc ((((a ++ b) ++ c) ++ d) ++ e) f g
    ∙ append_assoc (((a ++ b) ++ c) ++ d) e (f ++ g)
    ∙ append_assoc ((a ++ b) ++ c) d (e ++ (f ++ g))
    ∙ append_assoc (a ++ b) c (d ++ (e ++ (f ++ g)))
    ∙ append_assoc a b (c ++ (d ++ (e ++ (f ++ g))))

pub returns : goal.returns
returns g c =
    let named : List ℕ = state_name c.self.inside.state in
    let listed : ℕ = length c.self.inside.channels.listed in
    let made : ℕ = made_in c.self.inside.promises in
    let text : pieces c.name.result.now c.len.result c.made.result ≡ session_debug c.args.self.now =
    ap (λ (name : List ℕ). pieces name c.len.result c.made.result) c.name.ensures
    ∙ ap (λ (n : ℕ). pieces named n c.made.result) c.len.ensures
    ∙ ap (λ (n : ℕ). pieces named listed n) c.made.ensures
    ∙ sym (regrouped (codes "Session { state: ") named (codes ", channels: ") (decimal listed) (codes ", promises: ") (decimal made) (codes ", .. }"))
    ∙ ap session_debug c.self.view_is in
    record {
      writes = λ plain done.
          subst (λ (bytes : List ℕ). HasWritten g.W.Write.write_str_gives c.args.f.now bytes c.write.new.self) text (c.write.ensures.writes plain done);
    }
