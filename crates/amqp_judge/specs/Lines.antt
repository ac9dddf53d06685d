-- The line of a verdict.
use Rattle.std.specs.Prelude.{ℕ, List, ◌++◌, codes}
use Rattle.std.specs.Fmt.{decimal}
use Rattle.amqp_check.specs.declared.capture.Verdict.{Verdict}
use Rattle.amqp_check.specs.declared.capture.Verdict.TheVariants.{Legal, BadClient, CutClient, BadServer, CutServer, Illegal}

-- the line of a verdict, without its end
abbrev pub verdict_text : Verdict → List ℕ
verdict_text (Legal client server) = codes "legal " ++ decimal client ++ codes " " ++ decimal server
verdict_text (BadClient place) = codes "bad client " ++ decimal place
verdict_text (CutClient place) = codes "cut client " ++ decimal place
verdict_text (BadServer place) = codes "bad server " ++ decimal place
verdict_text (CutServer place) = codes "cut server " ++ decimal place
verdict_text (Illegal frame) = codes "illegal frame " ++ decimal frame
