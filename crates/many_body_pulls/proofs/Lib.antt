mod MemberLaws
