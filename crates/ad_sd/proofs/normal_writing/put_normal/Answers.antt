use Rattle.std.proofs.Common.{List, ℕ, ◌++◌, ap, subst, ◌∙◌}
use Rattle.ad_ids.specs.Sid.{sid_bytes}
use Rattle.ad_acl.specs.Entry.{Entry}
use Rattle.ad_sd.specs.Normal.{entries_bytes, AreEntries}
use Rattle.ad_sd.proofs.NormalWriting.{normal_put}
use Rattle.ad_sd.proofs.normal_writing.put_normal.Goals as goal

pub returns : goal.returns
returns c =
    let sd = c.args.sd.now in
    let put = c.in_ok-put_entries-2.ensures.put
    ∙ ap (λ (e : List Entry). c.put_entries.new.into.items ++ entries_bytes e) c.as_slice-sacl.ensures
    ∙ ap (λ (t : List ℕ). t ++ entries_bytes sd.sacl.entries) (c.in_ok-put_entries.ensures.put
    ∙ ap (λ (e : List Entry). c.put_sid-2.new.into.items ++ entries_bytes e) c.as_slice-dacl.ensures
    ∙ ap (λ (t : List ℕ). t ++ entries_bytes sd.dacl.entries) (c.in_ok-put_sid-2.ensures.put
    ∙ ap (λ (t : List ℕ). t ++ sid_bytes sd.group) (c.in_ok-put_sid.ensures.put
    ∙ ap (λ (t : List ℕ). t ++ sid_bytes sd.owner) c.in_ok-push.ensures.items))) in (
      record {
        owner = c.in_ok-put_sid.ensures.is;
        group = c.in_ok-put_sid-2.ensures.is;
        dacl = subst AreEntries c.as_slice-dacl.ensures c.in_ok-put_entries.ensures.are;
        sacl = subst AreEntries c.as_slice-sacl.ensures c.in_ok-put_entries-2.ensures.are;
      },
      normal_put sd c.put_entries-2.new.into.items c.args.into.now.items c.marks_of.result c.requires.empty
          c.marks_of.ensures put,
    )
