-- What is left unread.
use Rattle.std.specs.Prelude.{◌≡◌, IsTrue}
use Rattle.amqp_frame.specs.declared.frame.Read.TheVariants.{More}
use Rattle.amqp_rules.specs.Talk.{is_open}
use Rattle.amqp_engine.specs.Engine.{Engine, front_of}

-- while a link is open, nothing can be said of what is unread before more bytes come: no frame is left whole
abbrev pub IsRead : Engine → Type 0
IsRead e = IsTrue (is_open e.talk) → front_of e ≡ More
