use Rattle.std.proofs.Common.{rules, ◌∙◌, [], ◌∷◌, sym}
use Rattle.std.proofs.lemmas.Result.{IfOk-weaker, on_err_weaker, on_ok_weaker}
use Rattle.route_table.proofs.FamilyTables.{choices_seen, leaf_after, put_seen, tables_seen}
use Rattle.route_table.proofs.table.Table.store.Goals as goal

pub returns-in-V4 : goal.returns-in-V4
returns-in-V4 g c =
    let leaf = leaf_after c.self.invariant c.self.view_is c.in-V4.is c.store.ensures.side in
    record {
      hop = c.store.ensures.hop;
      networks = on_ok_weaker c.store.result (put_seen c.self.invariant c.self.view_is c.in-V4.is c.store.ensures.side (record { hop = c.args.hop; pref = c.args.pref } ∷ [])) c.store.ensures.networks;
      leaf = IfOk-weaker c.store.result _ _ (λ _ u. (λ t. leaf.0 (u.0 t), λ l. u.1 (leaf.1 l))) c.store.ensures.leaf;
      tables = tables_seen c.self.invariant c.self.view_is c.in-V4.is c.store.ensures.side;
      memory = c.store.ensures.memory;
      unchanged = search rules;
      absent = on_err_weaker c.store.result (λ e. sym (choices_seen c.self.invariant c.self.view_is c.in-V4.is) ∙ e) c.store.ensures.absent;
    }

pub returns-in-V6 : goal.returns-in-V6
returns-in-V6 g c =
    let leaf = leaf_after c.self.invariant c.self.view_is c.in-V6.is c.store-in-V6.ensures.side in
    record {
      hop = c.store-in-V6.ensures.hop;
      networks = on_ok_weaker c.store-in-V6.result (put_seen c.self.invariant c.self.view_is c.in-V6.is c.store-in-V6.ensures.side (record { hop = c.args.hop; pref = c.args.pref } ∷ [])) c.store-in-V6.ensures.networks;
      leaf = IfOk-weaker c.store-in-V6.result _ _ (λ _ u. (λ t. leaf.0 (u.0 t), λ l. u.1 (leaf.1 l))) c.store-in-V6.ensures.leaf;
      tables = tables_seen c.self.invariant c.self.view_is c.in-V6.is c.store-in-V6.ensures.side;
      memory = c.store-in-V6.ensures.memory;
      unchanged = search rules;
      absent = on_err_weaker c.store-in-V6.result (λ e. sym (choices_seen c.self.invariant c.self.view_is c.in-V6.is) ∙ e) c.store-in-V6.ensures.absent;
    }
