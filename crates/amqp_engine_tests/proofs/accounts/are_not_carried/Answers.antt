use Rattle.amqp_engine_tests.proofs.Accounting.{torn-not-carried, swapped-not-carried, twice-not-carried, on-two-links-not-carried, torn-over-links-not-carried, other-body-not-carried, made-up-not-carried, not-whole-not-carried, by-none-not-carried, by-another-not-carried, by-an-earlier-not-carried, by-a-refused-not-carried, of-two-channels-not-carried}
use Rattle.amqp_engine_tests.proofs.accounts.are_not_carried.Goals as goal

pub returns : goal.returns
returns c =
    record {
      torn = torn-not-carried;
      swapped = swapped-not-carried;
      twice = twice-not-carried;
      on_two_links = on-two-links-not-carried;
      over_links = torn-over-links-not-carried;
      other_body = other-body-not-carried;
      made_up = made-up-not-carried;
      not_whole = not-whole-not-carried;
      by_none = by-none-not-carried;
      by_another = by-another-not-carried;
      by_an_earlier = by-an-earlier-not-carried;
      by_a_refused = by-a-refused-not-carried;
      of_two_channels = of-two-channels-not-carried;
    }
